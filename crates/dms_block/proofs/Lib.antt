mod Sifting

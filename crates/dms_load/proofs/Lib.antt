mod Counted
mod Draws
mod Lines
mod Taken

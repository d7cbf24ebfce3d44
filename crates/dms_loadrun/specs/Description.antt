-- The description of the schema of a load.
use Rattle.std.specs.Prelude.{pos, [], ◌∷◌, codes, true, false}
use Rattle.dms_base.specs.declared.kind.ItemKind.TheVariants.{Alpha, Number as Decimal}
use Rattle.dms_base.specs.declared.op.Op.TheVariants.{Greater}
use Rattle.dms_base.specs.declared.value.Value.TheVariants.{Null, Number}
use Rattle.dms_desc.specs.Shape.{Described, Shape}
use Rattle.dms_desc.specs.Shape.Tree.{Empty, Test}

-- the restart data set, with the name of a program
abbrev pub rds : Shape
rds = record {
  number = 1;
  kind = 2;
  name = codes "RDS";
  owner = 0;
  population = 1000000;
  items = record { name = codes "PID"; kind = Alpha 10; required = false; initial = Null } ∷ [];
  groups = [];
  cond = Empty;
  set = 0;
  form = 0;
  duplicates = false;
  parts = [];
}

-- the accounts: a number of 8 digits, which each has, and a balance of 9 digits and a sign, two of them behind the point, which begins at 0
abbrev pub account : Shape
account = record {
  number = 2;
  kind = 1;
  name = codes "ACCOUNT";
  owner = 0;
  population = 1000000;
  items = record { name = codes "ANO"; kind = Decimal 8 0 false; required = true; initial = Null } ∷ record { name = codes "BAL"; kind = Decimal 9 2 true; required = false; initial = Number (pos 0) } ∷ [];
  groups = [];
  cond = Empty;
  set = 0;
  form = 0;
  duplicates = false;
  parts = [];
}

-- the accounts by number, no two with one
abbrev pub acct_set : Shape
acct_set = record {
  number = 3;
  kind = 3;
  name = codes "ACCT-SET";
  owner = 0;
  population = 0;
  items = [];
  groups = [];
  cond = Empty;
  set = 2;
  form = 1;
  duplicates = false;
  parts = record { item = 1; descending = false } ∷ [];
}

-- those with more than 100.00 by balance, of which several may have one
abbrev pub rich : Shape
rich = record {
  number = 4;
  kind = 4;
  name = codes "RICH";
  owner = 0;
  population = 0;
  items = [];
  groups = [];
  cond = Test 2 Greater (Number (pos 10000));
  set = 2;
  form = 1;
  duplicates = true;
  parts = record { item = 2; descending = false } ∷ [];
}

unfoldable pub load_description : Described
load_description = record { syncpoint = 100; controlpoint = 10; buffers = 256; blocks = 512; files = 9999; structures = rds ∷ account ∷ acct_set ∷ rich ∷ [] }

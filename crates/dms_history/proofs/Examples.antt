-- Worked values: each holds by computing the definitions.
use Rattle.std.proofs.Common.{◌≡◌, true, false, List, [], ◌∷◌, ◌++◌, map, Some, None, refl}
use Rattle.dms_history.specs.Events.{Stored, halt_load, roll_back, rebuild, Event, change, quiet, control, begin}
use Rattle.dms_history.specs.Lists.{has}
use Rattle.dms_history.specs.Replay.{with_block}
use Rattle.dms_history.specs.Restores.{takes_stored}
use Rattle.dms_history.specs.Told.{told_block, comes_from_file}
use Rattle.dms_history.specs.Points.{LivePoint, numbers_of, live_numbers, live_points, up_to}
use Rattle.dms_history.specs.Judge.{judge_point, no_such_point, audit_missing, voided}
use Rattle.dms_history.specs.SchemaAt.{schema_at}
use Rattle.dms_history.specs.Kept.{content_told}
use Rattle.dms_history.specs.Places.{is_described}
use Rattle.dms_history.specs.History.{history, live, last_point, next_number}
use Rattle.dms_history.specs.Images.{choice}
use Rattle.dms_history.specs.Pick.{Dumps, count_at, pick, dump_pick, content_of, blocks_at}
use Rattle.dms_history.specs.Here.{restore_pick, outcome, here}
use Rattle.dms_history.specs.Ranges.{told_events, patch_bytes}
use Rattle.dms_history.specs.Entries.{by_halt_load, by_roll_back, Entry, schema_part, image, byte_range, quiet_point, control_point, begin_restore, counts_in, named_by}
use Rattle.dms_history.specs.EntryEvents.{events, history_of}

-- two points; block 0 of file 30001 is made before point 1 and changed after it
abbrev two_points : List Event
two_points = control 0 1 (λ _. 0) true ∷ change 30001 0 None (7 ∷ []) ∷ quiet 1 ∷ change 30001 0 (Some (7 ∷ [])) (9 ∷ []) ∷ quiet 2 ∷ []

-- At point 1 the later change is undone.
undone_at_one : (stored : Stored) → blocks_at two_points stored 1 30001 ≡ (7 ∷ []) ∷ []
unfolding blocks_at content_of count_at pick choice
undone_at_one stored = refl

-- At point 2 it is redone, whatever is stored.
redone_at_two : (stored : Stored) → blocks_at two_points stored 2 30001 ≡ (9 ∷ []) ∷ []
unfolding blocks_at content_of count_at pick choice
redone_at_two stored = refl

-- At point 0 the new block isn't there.
new_block_not_there : (stored : Stored) → blocks_at two_points stored 0 30001 ≡ []
unfolding blocks_at content_of count_at pick choice
new_block_not_there stored = refl

-- Behind a Control a block without a change is as it is stored.
stored_at_control : (stored : Stored) → blocks_at (control 4 5 (λ _. 1) true ∷ []) stored 4 30001 ≡ stored 30001 0 ∷ []
unfolding blocks_at content_of count_at pick choice
stored_at_control stored = refl

-- A Begin cuts behind the place of its point, and all where the point has none.
begin_cuts : live (two_points ++ begin 1 roll_back ∷ []) ≡ control 0 1 (λ _. 0) true ∷ change 30001 0 None (7 ∷ []) ∷ quiet 1 ∷ []
unfolding history
begin_cuts = refl

begin_cuts_all : live (two_points ++ begin 8 roll_back ∷ []) ≡ []
unfolding history
begin_cuts_all = refl

-- Its point is the last one, and its number and those that it cut aren't free again.
last_is_one : last_point (history (two_points ++ begin 1 roll_back ∷ [])) ≡ Some 1
unfolding history
last_is_one = refl

next_is_three : next_number (two_points ++ begin 1 roll_back ∷ []) ≡ 3
unfolding next_number
next_is_three = refl

-- A point is live only where a Control directly after a whole Schema stands at or before its place.
undescribed : has is_described (control 0 1 (λ _. 0) false ∷ quiet 1 ∷ []) ≡ false
undescribed = refl

-- ---- restores

-- dump 2 was made at point 1
abbrev dumps : Dumps
dumps d = record { point = 1; end = 1; blocks = λ f. (7 ∷ []) ∷ [] }

rolled_back : (stored : Stored) → outcome roll_back dumps two_points 1 stored 30001 ≡ (7 ∷ []) ∷ []
unfolding outcome content_of restore_pick pick count_at choice
rolled_back stored = refl

rebuilt_to_two : (stored : Stored) → outcome (rebuild 2) dumps two_points 2 stored 30001 ≡ (9 ∷ []) ∷ []
unfolding outcome content_of restore_pick dump_pick count_at
rebuilt_to_two stored = refl

rebuilt_to_one : (stored : Stored) → outcome (rebuild 2) dumps two_points 1 stored 30001 ≡ (7 ∷ []) ∷ []
unfolding outcome content_of restore_pick dump_pick count_at
rebuilt_to_one stored = refl

-- Row 0 has blocks 0 to 15: block 15 goes by the dump, block 16 doesn't.
in_row : named_by (record { file = 30001; row = 0 } ∷ []) 30001 15 ≡ true
in_row = refl

not_in_row : named_by (record { file = 30001; row = 0 } ∷ []) 30001 16 ≡ false
not_in_row = refl

-- A rollback to point 1 is half done: it has written 7 over the 9. What counts is what it is to leave, whatever it has written.
half_done : (stored : Stored) → here dumps (history (two_points ++ begin 1 roll_back ∷ [])) stored 30001 0 ≡ 7 ∷ []
unfolding history outcome content_of restore_pick pick count_at choice
half_done stored = refl

-- Over it a rebuild to point 1 is begun and half done too: the same.
half_done_twice : (stored : Stored) → here dumps (history (two_points ++ begin 1 roll_back ∷ begin 1 (rebuild 2) ∷ [])) stored 30001 0 ≡ 7 ∷ []
unfolding history outcome content_of restore_pick dump_pick count_at
half_done_twice stored = refl

half_done_content : (stored : Stored) → blocks_at (live (two_points ++ begin 1 roll_back ∷ begin 1 (rebuild 2) ∷ [])) (here dumps (history (two_points ++ begin 1 roll_back ∷ begin 1 (rebuild 2) ∷ [])) stored) 1 30001 ≡ (7 ∷ []) ∷ []
unfolding history blocks_at outcome content_of restore_pick dump_pick pick count_at choice
half_done_content stored = refl

-- ---- entries

-- A Range of a block without an Image before it is left out, and one behind its Image is a change with whole images.
ranges : events (
    byte_range 30001 0 1 (4 ∷ [])
    ∷ schema_part 1 1 []
    ∷ control_point 0 1 (record { file = 30001; blocks = 1 } ∷ [])
    ∷ image 30001 0 (Some (1 ∷ 2 ∷ 3 ∷ [])) (5 ∷ 2 ∷ 3 ∷ [])
    ∷ byte_range 30001 0 1 (6 ∷ [])
    ∷ []
    ) ≡ control 0 1 (counts_in (record { file = 30001; blocks = 1 } ∷ [])) true ∷ change 30001 0 (Some (1 ∷ 2 ∷ 3 ∷ [])) (5 ∷ 2 ∷ 3 ∷ []) ∷ change 30001 0 (Some (5 ∷ 2 ∷ 3 ∷ [])) (5 ∷ 6 ∷ 3 ∷ []) ∷ []
unfolding told_events patch_bytes
ranges = refl

-- A Control behind a Schema in two parts is described; behind its second part alone, or with something between, it isn't.
whole_schema : events (schema_part 1 2 [] ∷ schema_part 2 2 [] ∷ control_point 0 1 [] ∷ []) ≡ control 0 1 (λ _. 0) true ∷ []
unfolding told_events
whole_schema = refl

part_schema : events (schema_part 2 2 [] ∷ control_point 0 1 [] ∷ []) ≡ control 0 1 (λ _. 0) false ∷ []
unfolding told_events
part_schema = refl

parted_schema : events (schema_part 1 1 [] ∷ quiet_point 1 ∷ control_point 1 2 [] ∷ []) ≡ quiet 1 ∷ control 1 2 (λ _. 0) false ∷ []
unfolding told_events
parted_schema = refl

-- ---- the first change behind a point made its block new

-- Control 3 says that the file has a block, and behind it that block is made new: the change has no before-image, so the block is the file's.
abbrev new_below : List Event
new_below = control 3 4 (λ _. 1) true ∷ change 30001 0 None (7 ∷ []) ∷ []

new_below_is_stored : (stored : Stored) → blocks_at new_below stored 3 30001 ≡ stored 30001 0 ∷ []
unfolding blocks_at content_of count_at pick choice
new_below_is_stored stored = refl

-- So it is while a halt/load to point 3 is pending, which voids that change and never writes the block.
new_below_counts : (stored : Stored) → here dumps (history (new_below ++ begin 3 halt_load ∷ [])) stored 30001 0 ≡ stored 30001 0
unfolding history outcome content_of restore_pick pick count_at choice
new_below_counts stored = refl

new_below_stays : takes_stored halt_load new_below 3 30001 0 ≡ true
new_below_stays = refl

new_below_untold : told_block new_below 3 30001 0 ≡ None
unfolding told_block
new_below_untold = refl

new_below_from_file : comes_from_file (history (new_below ++ begin 3 halt_load ∷ [])) 3 30001 0 ≡ true
unfolding history count_at
new_below_from_file = refl

-- A change with a before-image tells the block, and nothing comes from the file.
changed_told : told_block two_points 1 30001 0 ≡ Some (7 ∷ [])
unfolding told_block
changed_told = refl

changed_not_from_file : comes_from_file (history two_points) 1 30001 0 ≡ false
unfolding history
changed_not_from_file = refl

-- A Range behind a Control without an Image of its block, which a pending Begin voids, tells nothing of its block.
range_voided : (stored : Stored) → here dumps (history_of (
    schema_part 1 1 [] ∷ control_point 3 4 (record { file = 30001; blocks = 1 } ∷ []) ∷ byte_range 30001 0 1 (6 ∷ []) ∷ begin_restore 3 by_halt_load ∷ []
    )) stored 30001 0 ≡ stored 30001 0
unfolding told_events history outcome content_of restore_pick pick count_at choice
range_voided stored = refl

-- ---- the list of the live points

all_listed : (stored : Stored) → map (λ (p : LivePoint). p.blocks 30001) (live_points two_points stored) ≡ [] ∷ ((7 ∷ []) ∷ []) ∷ ((9 ∷ []) ∷ []) ∷ []
unfolding live_points live_numbers blocks_at content_of count_at pick choice
all_listed stored = refl

numbers_listed : live_numbers two_points ≡ 0 ∷ 1 ∷ 2 ∷ []
unfolding live_numbers
numbers_listed = refl

-- A Control of a point that has its place adds none, and a point whose Quiet stands before the first Control isn't live.
control_adds_none : live_numbers (two_points ++ control 2 3 (λ _. 1) true ∷ []) ≡ 0 ∷ 1 ∷ 2 ∷ []
unfolding live_numbers
control_adds_none = refl

quiet_before_control : live_numbers (quiet 5 ∷ control 5 6 (λ _. 0) true ∷ quiet 6 ∷ []) ≡ 6 ∷ []
unfolding live_numbers
quiet_before_control = refl

-- A rollback to point 1 leaves the points up to it.
cut_listed : (stored : Stored) → numbers_of (up_to 1 (live_points two_points stored)) ≡ live_numbers (live (two_points ++ begin 1 roll_back ∷ []))
unfolding live_points live_numbers history
cut_listed stored = refl

-- The content that entries tell over the empty base.
told_seven : content_told (schema_part 1 1 [] ∷ control_point 0 1 [] ∷ image 30001 0 None (7 ∷ []) ∷ []) (λ f. []) 30001 ≡ (7 ∷ []) ∷ []
unfolding told_events history with_block
told_seven = refl

-- ---- the refusal of a point

judged_live : judge_point two_points 3 1 ≡ None
unfolding judge_point
judged_live = refl

judged_above : judge_point two_points 3 3 ≡ Some no_such_point
unfolding judge_point
judged_above = refl

-- Points 4 and 6 are live: 5 was cut off, and 3 stood in a file that was removed.
abbrev four_and_six : List Event
four_and_six = control 4 5 (λ _. 0) true ∷ quiet 6 ∷ []

judged_voided : judge_point four_and_six 7 5 ≡ Some voided
unfolding judge_point live_numbers
judged_voided = refl

judged_removed : judge_point four_and_six 7 3 ≡ Some audit_missing
unfolding judge_point live_numbers
judged_removed = refl

-- Where no point is live, the file before the first one is asked for.
judged_none : judge_point [] 7 3 ≡ Some audit_missing
unfolding judge_point live_numbers
judged_none = refl

-- ---- the Schema at a point

-- a Schema in two parts, and another one behind point 1; the third isn't whole
abbrev two_schemas : List Entry
two_schemas =
    schema_part 1 2 (1 ∷ []) ∷ schema_part 2 2 (2 ∷ []) ∷ control_point 0 1 [] ∷ quiet_point 1
    ∷ schema_part 1 1 (3 ∷ []) ∷ control_point 1 2 [] ∷ quiet_point 2 ∷ schema_part 1 2 (4 ∷ []) ∷ quiet_point 3 ∷ []

schema_at_zero : schema_at two_schemas 0 ≡ Some (1 ∷ 2 ∷ [])
unfolding schema_at
schema_at_zero = refl

-- The place of point 1 is its Quiet, so the second Schema stands behind it.
schema_at_one : schema_at two_schemas 1 ≡ Some (1 ∷ 2 ∷ [])
unfolding schema_at
schema_at_one = refl

schema_at_three : schema_at two_schemas 3 ≡ Some (3 ∷ [])
unfolding schema_at
schema_at_three = refl

-- A rollback to point 1 cuts the second one off.
schema_at_cut : schema_at (two_schemas ++ begin_restore 1 by_roll_back ∷ quiet_point 4 ∷ []) 4 ≡ Some (1 ∷ 2 ∷ [])
unfolding schema_at
schema_at_cut = refl

schema_at_nowhere : schema_at two_schemas 9 ≡ None
unfolding schema_at
schema_at_nowhere = refl

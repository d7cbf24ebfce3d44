-- A copy is found, and stays one while its blocks are settled.
use Rattle.std.proofs.Common.{ℕ, ◌∙◌, sym, subst, List, arith}
use Rattle.dms_site.specs.Files.{stored_of}
use Rattle.dms_audfile.specs.Database.{HasDatabase}
use Rattle.dms_audfile.specs.TrailEntries.{entries_in}
use Rattle.dms_audfile.proofs.Copies.{blocks_are_found, trail_is_same}
use Rattle.dms_follow.proofs.Agreeing.{follows_agrees}
use Rattle.dms_follow.proofs.Going.{writes_keep_following, settles_all, settled_follows}
use Rattle.dms_follow.proofs.Settling.{restoring_leaves, restoring_settles}
use Rattle.dms_remote.specs.Laws.{CopyIsFound, CopyStays, CopySettles}

pub copy_is_found : CopyIsFound
copy_is_found total tag head blocks files copy fit there schema = record {
  found = blocks_are_found total tag 10001 copy.trail.file copy.trail.count blocks files copy.trail.is fit (subst (λ (f : List ℕ). HasDatabase f) (sym copy.head_is) there) schema;
  agrees = λ dumps. follows_agrees (entries_in blocks) dumps (stored_of files) copy.follows;
}

pub copy_stays : CopyStays
copy_stays total tag n head blocks old new copy may whole rewritten = record {
  trail = record {
    file = copy.trail.file;
    count = copy.trail.count;
    is = trail_is_same total tag 10001 copy.trail.file copy.trail.count blocks old new copy.trail.is (λ g low high. rewritten.others g high);
  };
  head_is = rewritten.others 1 (omega arith) ∙ copy.head_is;
  follows = writes_keep_following (entries_in blocks) (stored_of old) (stored_of new) copy.follows whole (restoring_leaves (entries_in blocks) n old new may rewritten);
}

pub copy_settles : CopySettles
copy_settles total tag n head blocks dumps old new copy may whole rewritten told =
    settled_follows (entries_in blocks) (stored_of old) (stored_of new) copy.follows
    (settles_all (entries_in blocks) (stored_of old) (stored_of new) copy.follows whole (restoring_leaves (entries_in blocks) n old new may rewritten) (restoring_settles (entries_in blocks) n dumps new may told))

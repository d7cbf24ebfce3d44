use Rattle.std.proofs.Common.{◌≡◌, ◌∙◌, ◌++◌, ap, sym, drop, length, List, ℕ}
use Rattle.dms_site.specs.Files.{Files, range}
use Rattle.dms_sitemem.specs.Slots.{files_of}
use Rattle.dms_memcalls.specs.Folders.{FolderSeen}
use Rattle.dms_memcalls.specs.Outcomes.{seen_now}
use Rattle.dms_memcalls.proofs.Grown.{range_front}
use Rattle.dms_memcalls.proofs.mem_calls.MemCallsCalls.pread.Goals as goal

pub returns-clause-bytes : goal.returns-clause-bytes
returns-clause-bytes c = λ t.
    let into = c.args.into.now in
    let f = c.args.handle.now.file in
    let file = files_of c.look.new.self.story.disk.files.files f in
    let same : file ≡ (seen_now c.args.self.now.story.events.items).bytes f = ap (λ (l : Files). l f) (c.look.new.self.story.alike.bytes ∙ ap (λ (s : FolderSeen). s.bytes) c.look.ensures.seen) in
    c.read.ensures.bytes
    ∙ ap (λ (l : List ℕ). l ++ drop c.read.result into) (sym (range_front c.args.at (length into) file) ∙ ap (λ (n : ℕ). range c.args.at n file) (sym c.read.ensures.count))
    ∙ ap (λ (l : List ℕ). range c.args.at c.read.result l ++ drop c.read.result into) same

use Rattle.std.proofs.Common.{ℕ, ◌*◌, ◌≡◌, ◌∙◌, ◌++◌, ap, length, length-drop, List, arith}
use Rattle.dms_site.specs.Files.{range}
use Rattle.dms_remote.proofs.Shipped.{read_whole, record_loaded}
use Rattle.dms_remote.proofs.shipping.load_record.Goals as goal

pub returns-in-Ok-clause-loaded : goal.returns-in-Ok-clause-loaded
returns-in-Ok-clause-loaded g c = λ tells whole.
    let read = c.in-Ok.ensures.bytes tells in
    let file = g.S.Site.files c.args.site.now c.args.file in
    let parts = c.split_at_mut-place.ensures in
    let at : 4096 * c.from.result ≡ 4096 * c.args.block = ap (λ (n : ℕ). 4096 * n) c.from.ensures in
    let long : length (range (4096 * c.from.result) 4096 file) ≡ 4096 = ap (λ (n : ℕ). length (range n 4096 file)) at ∙ whole in
    let put : length c.put_place.new.bytes ≡ 4103 = omega (arith, c.put_place.auto.bytes, c.requires.size) in
    let size : length c.split_at_mut-place.result.1.now ≡ 4096 = ap (λ (l : List ℕ). length l) parts.back ∙ length-drop 7 c.put_place.new.bytes ∙ omega (arith, put) in
    let into = read_whole c.split_at_mut-place.result.1.now c.read.new.into file (4096 * c.from.result) _ size read.0 read.1 long in
    (λ i. parts.front i ++ c.read.new.into) ∙ record_loaded _ c.args.block c.args.buffer.now c.put_place.new.bytes c.read.new.into _ c.put_place.ensures (into ∙ ap (λ (n : ℕ). range n 4096 file) at)

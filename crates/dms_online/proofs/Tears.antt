-- A dump is written behind a block that was looked at.
use Rattle.std.specs.Prelude.{OnOk}
use Rattle.std.specs.declared.result.Result.{Result}
use Rattle.std.specs.declared.result.Result.TheVariants.{Ok, Err}
use Rattle.std.proofs.Common.{ℕ, ◌≡◌, List, ◌∙◌, ap, subst}
use Rattle.dms_site.specs.Files.{Files, overlay_bytes, with_file}
use Rattle.dms_site.specs.Laws.{with_file_here}

pub written_at : (old mid new : Files) (f h at : ℕ) (bytes block : List ℕ) → h ≡ f → mid ≡ old → bytes ≡ block → new ≡ with_file mid h (overlay_bytes at bytes (mid h)) → new f ≡ overlay_bytes at block (old f)
written_at old mid new f h at bytes block same read is wrote =
    let one : new h ≡ overlay_bytes at bytes (mid h) = ap (λ (fs : Files). fs h) wrote ∙ with_file_here mid h (overlay_bytes at bytes (mid h)) in
    let there : new f ≡ overlay_bytes at bytes (mid f) = subst (λ (i : ℕ). new i ≡ overlay_bytes at bytes (mid i)) same one in
    there ∙ ap (λ (fs : Files). overlay_bytes at bytes (fs f)) read ∙ ap (λ (l : List ℕ). overlay_bytes at l (old f)) is

pub four_ok : {T E : Type 0} (r : Result T E) (P Q R U V : Type 0) → (P → Q → R → U → V) → OnOk r P → OnOk r Q → OnOk r R → OnOk r U → OnOk r V
four_ok (Ok x) P Q R U V f p q s u = f p q s u
four_ok (Err e) P Q R U V f p q s u = tt

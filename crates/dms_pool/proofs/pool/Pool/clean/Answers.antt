use Rattle.std.proofs.Common.{◌∙◌, ap, refl, sym}
use Rattle.std.specs.Map.{set_value}
use Rattle.std.specs.Option.{option_copied_mut}
use Rattle.lru.specs.LruCache.{lru_cache}
use Rattle.dms_pool.specs.declared.frame.FrameKey.{FrameKey}
use Rattle.dms_pool.specs.Entries.{same_key}
use Rattle.dms_pool.specs.Held.{clean_frame}
use Rattle.dms_pool.proofs.Leaving.{cleans}
use Rattle.dms_pool.proofs.Sound.{sound_set}
use Rattle.dms_pool.proofs.pool.Pool.clean.Goals as goal

pub invariant_of-self : goal.invariant_of-self
invariant_of-self c = rw c.of.ensures (record { sound = sound_set c.args.id (clean_frame c.in-Some.frame.now) c.args.self.now.frames _ c.args.self.now.sound refl })

pub returns-in-Some : goal.returns-in-Some
returns-in-Some c =
    let value = rw c.of.ensures at c.peek_mut.ensures.value in
    cleans c.args.id c.in-Some.frame.now c.args.self.now _ (sym value ∙ ap option_copied_mut c.in-Some.is)
    (ap (λ (k : FrameKey). lru_cache (set_value (same_key k) c.args.self.now.frames.entries (clean_frame c.in-Some.frame.now)) c.args.self.now.frames.cap) c.of.ensures)

-- What is read of one block that is given.
use Rattle.std.proofs.Common.{◌≡◌, ◌∙◌, ap}
use Rattle.dms_audfile.specs.Gathering.{Known, nothing_seen, reached, gather}
use Rattle.dms_audfile.specs.Scanning.{TrailRead}
use Rattle.dms_audfile.specs.Tails.{ReadsPlaces}
use Rattle.dms_audfile.proofs.Reading.{read_all}
use Rattle.dms_audfile.proofs.Spans.{seen_places}

pub one_block : (old new : Known) (r : TrailRead) → old ≡ nothing_seen → reached new ≡ gather old r → ReadsPlaces r new.places
one_block old new r none is =
    let a = read_all old new r none is in
    record { placed = a.entries; read_is = a.is; places_are = ap (λ (s : Known). s.places) a.known ∙ seen_places nothing_seen a.entries }

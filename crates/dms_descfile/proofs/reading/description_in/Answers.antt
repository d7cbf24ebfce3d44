use Rattle.std.proofs.lemmas.Result.{IfOk-weaker}
use Rattle.dms_descfile.proofs.Found.{holds_of, sound_of}
use Rattle.dms_descfile.proofs.reading.description_in.Goals as goal

pub returns-in-Some-clause-holds : goal.returns-in-Some-clause-holds
returns-in-Some-clause-holds c = IfOk-weaker c.decode.result _ _ (λ read decodes few. holds_of c.args.file.now c.in-Some.content.now read c.in-Some.ensures decodes few) c.decode.ensures

pub returns-in-Some-clause-sound : goal.returns-in-Some-clause-sound
returns-in-Some-clause-sound c = IfOk-weaker c.decode.result _ _ (λ read decodes. sound_of c.in-Some.content.now read decodes) c.decode.ensures

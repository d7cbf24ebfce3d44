use Rattle.dms_guard.specs.Both.{both_of, first_of, second_of}
use Rattle.dms_runtop.proofs.command.run_known.Goals as goal

pub run_opened-requires-clause-known : goal.run_opened-requires-clause-known
run_opened-requires-clause-known g c = λ tells.
    let st = c.requires.known (second_of g.K.Knows.known g.S.Site.tells tells) (first_of g.K.Knows.known g.S.Site.tells tells) in
    record { files = st.files; runs = st.runs; desc = st.desc; formed = st.formed; spelled = st.spelled }

pub returns-clause-ran : goal.returns-clause-ran
returns-clause-ran g c = λ knows tells st n db all state valid.
    c.run_opened.ensures.ran (both_of g.K.Knows.known g.S.Site.tells knows tells) (record { files = st.files; runs = st.runs; desc = st.desc; formed = st.formed; spelled = st.spelled }) n db all state valid

pub returns-clause-grown : goal.returns-clause-grown
returns-clause-grown g c = λ knows tells. c.run_opened.ensures.grown (both_of g.K.Knows.known g.S.Site.tells knows tells)

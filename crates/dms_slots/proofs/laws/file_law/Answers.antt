use Rattle.dms_block.specs.ContentLaws.{in_others}
use Rattle.dms_desc.specs.Files.{file_of}
use Rattle.dms_slots.specs.FileWritten.{put_used, put_free, put_other}
use Rattle.dms_slots.proofs.laws.file_law.Goals as goal

pub returns-clause-used : goal.returns-clause-used
returns-clause-used c = put_used

pub returns-clause-free : goal.returns-clause-free
returns-clause-free c = put_free

pub returns-clause-others : goal.returns-clause-others
returns-clause-others c = put_other

pub returns-clause-files : goal.returns-clause-files
returns-clause-files c s content number bytes file other = in_others content (file_of s.number) _ _ file other

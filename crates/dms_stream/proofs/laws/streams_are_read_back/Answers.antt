use Rattle.dms_stream.proofs.Records.{reads_stream, reads_cut_head, reads_cut}
use Rattle.dms_stream.proofs.laws.streams_are_read_back.Goals as goal

pub returns : goal.returns
returns c = record { whole = reads_stream; cut_head = reads_cut_head; cut = reads_cut }

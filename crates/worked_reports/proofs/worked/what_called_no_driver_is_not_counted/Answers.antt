use Rattle.std.proofs.Common.{refl}
use Rattle.std.specs.Fmt.{digits}
use Rattle.hex.specs.Hex.{encode_with}
use Rattle.sha2.specs.Sha256.{sha256, digest_bytes, hash_after, compress, rounds, schedule, first_words}
use Rattle.run_report.specs.Report.{head_line, port_line, process_line, text_of, load_head, load_line, summary_of}
use Rattle.worked_reports.proofs.worked.what_called_no_driver_is_not_counted.Goals as goal

pub returns-clause-text : goal.returns-clause-text
unfolding digits encode_with sha256 digest_bytes hash_after compress rounds schedule first_words head_line port_line process_line text_of
returns-clause-text c = refl

pub returns-clause-summary : goal.returns-clause-summary
unfolding digits load_head load_line summary_of
returns-clause-summary c = refl

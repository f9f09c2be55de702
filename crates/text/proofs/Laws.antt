-- The laws of the verdicts, together.
use Rattle.text.specs.Promises.{VerdictLaws}
use Rattle.text.proofs.Documents.{accepted_is_written}
use Rattle.text.proofs.Faults.{written_once, verdict_once, faults_are_real}
use Rattle.text.proofs.Begun.{faults_are_first}
use Rattle.text.proofs.Decided.{verdict_stands}
use Rattle.text.proofs.Causes.{causes_are_told, one_cause, too_much_is_told}
use Rattle.text.proofs.Counts.{bad_count_is_told}

pub verdict_laws : VerdictLaws
verdict_laws =
    record {
      accepted_is_written = accepted_is_written;
      written_once = written_once;
      stands = verdict_stands;
      once = verdict_once;
      faults_are_real = faults_are_real;
      faults_are_first = faults_are_first;
      causes_are_told = causes_are_told;
      one_cause = one_cause;
      too_much_is_told = too_much_is_told;
      bad_count_is_told = bad_count_is_told;
    }

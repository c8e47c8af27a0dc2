-- The laws of MapJudged and SixCases; and a map is read through the test of its record and its geometry, which are as before in version 0.
use mathlib.Core.Path.{◌≡◌}
use mathlib.Core.List.{List}
use Prim.Native.Nat.{ℕ}
use lib.Dec.{leb}
use lib.ListN.{length}
use Rattle.geometry.specs.Record.{disc_record, version_of}
use Rattle.geometry.proofs.Editions as record_of
use Rattle.model.specs.Answer.{unless}
use Rattle.model.specs.Check.{length_fits, blocks_of, blocks_read, map_read, map_read0}
use Rattle.model.proofs.SixCases.{case_is_six, six_is_case}
use Rattle.model.proofs.MapJudged.{answer_is_judged, judged_is_answer, accepted_keeps_rules, rules_accepted}
use Rattle.model.proofs.check_is_table.Goals as goal

version_0 : (m : List ℕ) → version_of m ≡ 0 → map_read m ≡ map_read0 m
version_0 m e =
    let k = record_of.version_0 (disc_record m) e in
    λ i. unless (leb 64 (length m)) 1 (unless (k.0 i) 2 (unless (length_fits (k.1 i) m) 1 (blocks_read (k.1 i) (blocks_of (k.1 i) m))))

pub returns : goal.returns
returns c =
    record {
      answer_is_judged = answer_is_judged;
      judged_is_answer = judged_is_answer;
      accepted_keeps_rules = accepted_keeps_rules;
      rules_accepted = rules_accepted;
      case_is_six = case_is_six;
      six_is_case = six_is_case;
      version_0 = version_0;
    }

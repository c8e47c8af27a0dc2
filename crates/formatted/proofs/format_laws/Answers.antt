-- The laws of `Laws`, each from the file that shows it.
use Rattle.formatted.proofs.Units.{to_124, to_249, to_499, to_999}
use Rattle.formatted.proofs.Judged.{format_judged, length_judged}
use Rattle.formatted.proofs.MapDrawn.{formats, wanted}
use Rattle.formatted.proofs.NoneSuits.{none_suits}
use Rattle.formatted.proofs.format_laws.Goals as goal

pub returns : goal.returns
returns c =
    record {
      format_judged = format_judged;
      length_judged = length_judged;
      wanted = wanted;
      formats = formats;
      none_suits = none_suits;
      to_124 = to_124;
      to_249 = to_249;
      to_499 = to_499;
      to_999 = to_999;
    }

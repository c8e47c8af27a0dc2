-- The laws of TableKept.
use Rattle.runs.proofs.TableKept.{touching_told, none_touching, release_by_table, place_by_table, claim_by_table}
use Rattle.runs.proofs.edit_table.Goals as goal

pub returns : goal.returns
returns c =
    record {
      touching_told = touching_told;
      none_touching = none_touching;
      release_by_table = release_by_table;
      place_by_table = place_by_table;
      claim_by_table = claim_by_table;
    }

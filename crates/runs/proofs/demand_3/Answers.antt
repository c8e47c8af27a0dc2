-- The laws of `MapsEdited`, `StepLaws` and `EveryRun`.
use Rattle.runs.proofs.MapsEdited.{accepted_editable, map_a_law}
use Rattle.runs.proofs.StepLaws.{refused_keeps, reads_after, release_accepted, release_place, given_release, claim_places}
use Rattle.runs.proofs.EveryRun.{run_claims, same_lists_same_bytes}
use Rattle.runs.proofs.demand_3.Goals as goal

pub returns : goal.returns
returns c =
    record {
      accepted_editable = accepted_editable;
      map_a_law = map_a_law;
      reads_after = reads_after;
      refused_keeps = refused_keeps;
      release_accepted = release_accepted;
      release_place = release_place;
      given_release = given_release;
      claim_places = claim_places;
      every_run = run_claims;
      same_lists_same_bytes = same_lists_same_bytes;
    }

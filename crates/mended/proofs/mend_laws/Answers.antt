-- The laws of `Laws`.
use Rattle.mended.proofs.InOrder.{refused_stays, stays, twice, only_in_order, list_same, free_same}
use Rattle.mended.proofs.Judged.{mend_judged, positions_judged, as_checked}
use Rattle.mended.proofs.MapMended.{mends}
use Rattle.mended.proofs.Positions.{positions_listed, positions_ascend, positions_exact}
use Rattle.mended.proofs.mend_laws.Goals as goal

pub returns : goal.returns
returns c =
    record {
      mend_judged = mend_judged;
      positions_judged = positions_judged;
      as_checked = as_checked;
      refused_stays = refused_stays;
      mends = mends;
      list_same = list_same;
      free_same = free_same;
      twice = twice;
      stays = stays;
      only_in_order = only_in_order;
      positions_listed = positions_listed;
      positions_ascend = positions_ascend;
      positions_exact = positions_exact;
    }

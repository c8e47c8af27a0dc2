-- The laws of specs/Laws. Those of a map that was read hold since its reading is that of an accepted map.
use mathlib.Core.Path.{◌≡◌, sym}
use mathlib.Core.Bool.{true, false, cond}
use mathlib.Core.List.{List}
use Prim.Native.Nat.{ℕ}
use native.Mathlib.Nat.{add-zero}
use Rattle.geometry.specs.declared.Geometry.{Geometry}
use Rattle.geometry.specs.Record.{geometry_of}
use Rattle.model.specs.Chain.{Entry}
use Rattle.model.specs.Answer.{answered}
use Rattle.model.specs.Check.{map_read}
use Rattle.model.specs.Pieces.{free_spans}
use Rattle.address.specs.Address.{at}
use Rattle.listing.proofs.Laws.{accepted, same_zones}
use Rattle.address.proofs.Laws.{sought}
use Rattle.sweep.specs.Sweep.{covers, object_spans}
use Rattle.sweep.specs.Laws.{SweepLaws}
use Rattle.sweep.proofs.ByTable.{sweep_by_table, free_sweep_by_table}
use Rattle.sweep.proofs.OwnAnswers.{sweep_lists, listed_swept, sweep_reaches, reached_swept, free_sweep_spans, free_sweep_leaves, free_sweep_misses}
use Rattle.sweep.proofs.SweptOn.{swept_length}
use Rattle.sweep.proofs.SweptLaws.{swept_byte, cut_bytes, cut_count}
use Rattle.sweep.proofs.SweptReached.{object_reached, object_covered, object_not_free}

module _ (m : List ℕ) (ess : List (List Entry)) (e : map_read m ≡ answered ess) where
  abbrev g : Geometry
  g = geometry_of m

  swept_is_reached : (id x : ℕ) → covers g.unit (object_spans g id ess) x ≡ true → (i : ℕ) × (sought m ess e id i ≡ at x)
  swept_is_reached id x = rw (sym (same_zones m ess e)) (object_reached (accepted m ess e) id x)

  reached_is_swept : (id i x : ℕ) → sought m ess e id i ≡ at x → covers g.unit (object_spans g id ess) x ≡ true
  reached_is_swept id i x = rw (sym (same_zones m ess e)) (object_covered (accepted m ess e) id i x)

  free_not_reached : (id i x : ℕ) → sought m ess e id i ≡ at x → covers g.unit (free_spans g 0 ess) x ≡ false
  free_not_reached id i x = rw (sym (same_zones m ess e)) (object_not_free (accepted m ess e) id i x)

pub sweep_laws : SweepLaws
sweep_laws = record {
  sweep_by_table = sweep_by_table;
  free_sweep_by_table = free_sweep_by_table;
  sweep_lists = sweep_lists;
  listed_swept = listed_swept;
  sweep_reaches = sweep_reaches;
  reached_swept = reached_swept;
  free_sweep_spans = free_sweep_spans;
  free_sweep_leaves = free_sweep_leaves;
  free_sweep_misses = free_sweep_misses;
  swept_is_reached = swept_is_reached;
  reached_is_swept = reached_is_swept;
  free_not_reached = free_not_reached;
  swept_byte = swept_byte;
  swept_length = swept_length;
  one_count = λ unit qs a. add-zero (cond (covers unit qs a) 1 0);
  cut_bytes = cut_bytes;
  cut_count = cut_count;
}

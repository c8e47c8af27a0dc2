-- Runs of calls on the bytes of an accepted map in which no two free fragments touch (demand 3). After every run the map is
-- what is written from the pieces and cross checks that the run leaves, and is accepted again with these; a run undone last
-- first leaves every byte as it was.
use mathlib.Core.Path.{◌≡◌, sym, ap, ap₂, ◌∙◌, subst⁻¹}
use mathlib.Core.List.{List, [], ◌∷◌}
use mathlib.Core.Option.{none}
use Prim.Native.Nat.{ℕ}
use lib.ListN.{length}
use Rattle.bits.specs.Bits.{Bytes}
use Rattle.geometry.specs.declared.Geometry.{Geometry}
use Rattle.geometry.specs.Record.{geometry_of}
use Rattle.model.specs.Chain.{Entry, touching}
use Rattle.model.specs.Blocks.{flat}
use Rattle.model.specs.Shown.{zones_in, zones_of, listed_on}
use Rattle.model.specs.Answer.{Answer, refused, answered}
use Rattle.model.specs.Check.{blocks_of, map_read}
use Rattle.model.specs.Pieces.{Piece, pieces_of_zones, object_pairs}
use Rattle.edits.specs.Edits.{Disc, Edit, edit}
use Rattle.edits.specs.Judge.{Call, judge}
use Rattle.edits.specs.Runs.{Undone}
use Rattle.edits.proofs.PieceRuns.{after, run, edits}
use Rattle.edits.proofs.RunsKept.{run_undone}
use Rattle.edits.specs.Written.{rewritten}
use Rattle.edits.specs.Steps.{disc_of, outcome, bytes_after, step, steps}
use Rattle.edits.specs.Editable.{Editable}
use Rattle.edits.proofs.MapWritten.{drawn_zones, none_touching}
use Rattle.edits.proofs.DiscKept.{disc_run}
use Rattle.edits.proofs.StepWritten.{outcome_judged, written_map, length_new_map, geometry_new, bytes_new, read_new, disc_new, steps_new}
use Rattle.edits.proofs.MapAccepted.{map_geometry, map_of, map_disc, map_as_written}

-- a map that is accepted with geometry g, in which no two free fragments touch, and whose pieces and cross checks are s
abbrev pub ReadsAs : Geometry → Disc → List ℕ → Type 0
ReadsAs g s m = (ess : List (List Entry)) × (map_read m ≡ answered ess) × (touching 0 ess ≡ none) × (disc_of m ess ≡ s) × (geometry_of m ≡ g)

-- a map that reads as a disc: what its objects list, and that it may be edited
reads_zones : (g : Geometry) (s : Disc) (m : List ℕ) (r : ReadsAs g s m) → zones_of m ≡ r.0
reads_zones g s m r = ap zones_in r.1

pub reads_listed : (g : Geometry) (s : Disc) (m : List ℕ) → ReadsAs g s m → (id : ℕ) → listed_on m id ≡ object_pairs g id s.pieces
reads_listed g s m r id =
    ap (λ (x : List (List Entry)). object_pairs (geometry_of m) id (pieces_of_zones (geometry_of m) 0 x)) (reads_zones g s m r)
    ∙ ap₂ (λ (x : Geometry) (l : List Piece). object_pairs x id l) r.4 (ap (λ (d : Disc). d.pieces) r.3)

pub reads_editable : (g : Geometry) (s : Disc) (m : List ℕ) → ReadsAs g s m → Bytes m → Editable m
reads_editable g s m r b =
    let e = reads_zones g s m r in
    record { bytes = b; accepted = r.1 ∙ ap answered (sym e); apart = ap (touching 0) e ∙ r.2 }

module _ (m : List ℕ) (ess : List (List Entry)) (bytes : Bytes m) (accepted : map_read m ≡ answered ess) (apart : touching 0 ess ≡ none) where
  -- after every run the map is the old one written from the pieces and cross checks that the run leaves
  pub run_bytes : (cs : List Call) → steps m cs ≡ flat (rewritten (geometry_of m) (blocks_of (geometry_of m) m) (run (geometry_of m) (disc_of m ess) cs))
  run_bytes cs =
      ap (λ (x : List ℕ). steps x cs) (sym (map_as_written m ess bytes accepted apart))
      ∙ steps_new (geometry_of m) m (map_of m ess bytes accepted) (disc_of m ess) cs (map_disc m ess bytes accepted)

  -- a run undone last first leaves every byte as it was
  pub undone_bytes : (cs : List Call) → Undone (edits (geometry_of m) (disc_of m ess) cs) → steps m cs ≡ m
  undone_bytes cs u =
      run_bytes cs
      ∙ ap (written_map (geometry_of m) m) (run_undone (geometry_of m) (disc_of m ess) cs (map_geometry m ess bytes accepted) (map_disc m ess bytes accepted).pieces.fit u)
      ∙ map_as_written m ess bytes accepted apart

  -- after every run the map is accepted again, with the pieces and cross checks that the run leaves
  pub run_kept : (cs : List Call) → ReadsAs (geometry_of m) (run (geometry_of m) (disc_of m ess) cs) (steps m cs)
  run_kept cs =
      let g = geometry_of m in
      let s = run g (disc_of m ess) cs in
      let t = map_of m ess bytes accepted in
      let h = disc_run g (map_geometry m ess bytes accepted) (disc_of m ess) cs (map_disc m ess bytes accepted) in
      subst⁻¹ (ReadsAs g s) (run_bytes cs) (drawn_zones g 0 g.zones s.pieces, read_new g m t s h, none_touching g 0 g.zones s.pieces 0, disc_new g m t s h, geometry_new g m t s h)

  pub length_kept : (cs : List Call) → length (steps m cs) ≡ length m
  length_kept cs =
      let t = map_of m ess bytes accepted in
      ap length (run_bytes cs) ∙ length_new_map (geometry_of m) m t (run (geometry_of m) (disc_of m ess) cs) ∙ sym t.whole

  pub bytes_kept : (cs : List Call) → Bytes (steps m cs)
  bytes_kept cs =
      let g = geometry_of m in
      subst⁻¹ Bytes (run_bytes cs)
      (bytes_new g m (map_of m ess bytes accepted) (run g (disc_of m ess) cs) (disc_run g (map_geometry m ess bytes accepted) (disc_of m ess) cs (map_disc m ess bytes accepted)))

  -- one call that is refused leaves every byte
  pub step_refused : (c : Call) (n z : ℕ) → judge (geometry_of m) none (disc_of m ess).pieces c ≡ refused n z → (outcome m c ≡ refused n z) × (step m c ≡ m)
  step_refused c n z h =
      let o : outcome m c ≡ refused n z = outcome_judged m ess accepted apart c ∙ h in
      (o, ap (bytes_after m) o)

  -- one call that is accepted: the map is written from the pieces and cross checks after its edit, and accepted again with these
  pub step_accepted : (c : Call) (e : Edit) → judge (geometry_of m) none (disc_of m ess).pieces c ≡ answered e
      → (outcome m c ≡ answered e)
      × (step m c ≡ flat (rewritten (geometry_of m) (blocks_of (geometry_of m) m) (edit (geometry_of m) e (disc_of m ess))))
      × ReadsAs (geometry_of m) (edit (geometry_of m) e (disc_of m ess)) (step m c)
  step_accepted c e h =
      let o : outcome m c ≡ answered e = outcome_judged m ess accepted apart c ∙ h in
      let k : ReadsAs (geometry_of m) (after (geometry_of m) (disc_of m ess) c) (step m c) = run_kept (c ∷ []) in
      (o, ap (bytes_after m) o ∙ ap (λ (r : Answer (List (List Entry))). flat (rewritten (geometry_of m) (blocks_of (geometry_of m) m) (edit (geometry_of m) e (disc_of m (zones_in r))))) accepted, rw h at k)

-- Demand 3's statements on whole runs, from what is known of single steps, of runs on pieces and of maps written from pieces. Where every
-- object lists the same after two runs, the pieces are the same (`lists_fix_pieces`), so the cross checks are (`runs_cross_same`), so every
-- byte is.
use mathlib.Core.Path.{◌≡◌, refl, sym, ap, ◌∙◌, subst, subst⁻¹}
use mathlib.Core.List.{List, [], ◌∷◌, ◌++◌, map}
use Prim.Native.Nat.{ℕ, ◌<◌}
use lib.ListN.{length, get_or}
use Rattle.checks.specs.Cross.{cross_of}
use Rattle.geometry.specs.declared.Geometry.{Geometry}
use Rattle.geometry.specs.Record.{geometry_of}
use Rattle.geometry.specs.Accepted.{AcceptedGeometry}
use Rattle.model.specs.Rules.{CheckRule, zone_block}
use Rattle.model.specs.Check.{blocks_of}
use Rattle.model.specs.Pieces.{object_pairs}
use Rattle.model.proofs.MapJudged.{accepted_keeps_rules}
use Rattle.edits.specs.Edits.{Disc, Edit}
use Rattle.edits.specs.Judge.{Call}
use Rattle.edits.specs.Runs.{Undone, cross_run}
use Rattle.edits.specs.Order.{Ascending}
use Rattle.edits.proofs.PieceRuns.{run}
use Rattle.edits.proofs.Invariant.{FitPieces, fit_asc}
use Rattle.edits.proofs.RunsKept.{run_cross, run_fit}
use Rattle.runs.proofs.CrossKey.{runs_cross_same}
use Rattle.runs.proofs.SamePieces.{lists_fix_pieces}
use Rattle.edits.specs.Steps.{disc_of, step, steps}
use Rattle.edits.specs.Editable.{Editable, ReadsAfter}
use Rattle.model.specs.Shown.{zones_of, listed_on}
use Rattle.runs.specs.Demand3.{edits_of, Accepted, SameLists, RunLaws}
use Rattle.edits.proofs.StepWritten.{written_map}
use Rattle.edits.proofs.MapAccepted.{map_geometry, map_disc}
use Rattle.edits.proofs.RunsOnBytes.{ReadsAs, reads_listed, reads_editable, run_bytes, undone_bytes, run_kept, bytes_kept}
use Rattle.runs.proofs.EditsOf.{edits_same}
use Rattle.runs.proofs.StepLaws.{reads_after}

-- a run in two parts
steps_append : (bs cs : List Call) (m : List ℕ) → steps m (bs ++ cs) ≡ steps (steps m bs) cs
steps_append [] cs m = refl
steps_append (b ∷ bs) cs m = steps_append bs cs (step m b)

module _ (m : List ℕ) (ed : Editable m) where
  abbrev g : Geometry
  g = geometry_of m

  abbrev s : Disc
  s = disc_of m (zones_of m)

  ok : AcceptedGeometry (geometry_of m)
  ok = map_geometry m (zones_of m) ed.bytes ed.accepted

  fit : FitPieces (geometry_of m) (disc_of m (zones_of m)).pieces
  fit = (map_disc m (zones_of m) ed.bytes ed.accepted).pieces.fit

  run_reads : (cs : List Call) → ReadsAs (geometry_of m) (run (geometry_of m) (disc_of m (zones_of m)) cs) (steps m cs)
  run_reads cs = run_kept m (zones_of m) ed.bytes ed.accepted ed.apart cs

  run_again : (cs : List Call) → Editable (steps m cs)
  run_again cs = reads_editable (geometry_of m) (run g s cs) (steps m cs) (run_reads cs) (bytes_kept m (zones_of m) ed.bytes ed.accepted ed.apart cs)

  -- two runs after which every object lists the same: the pieces are the same
  same_lists_pieces : (cs ds : List Call) → SameLists (steps m cs) (steps m ds)
      → (run (geometry_of m) (disc_of m (zones_of m)) cs).pieces ≡ (run (geometry_of m) (disc_of m (zones_of m)) ds).pieces
  same_lists_pieces cs ds h = lists_fix_pieces (geometry_of m) (run g s cs).pieces (run g s ds).pieces (ascends cs) (ascends ds) (λ id. sym (listed cs id) ∙ sym (h id) ∙ listed ds id)
    where
      ascends : (cs : List Call) → Ascending 0 (run (geometry_of m) (disc_of m (zones_of m)) cs).pieces
      ascends cs = fit_asc (geometry_of m) (run g s cs).pieces ok (run_fit (geometry_of m) s cs ok fit)

      listed : (cs : List Call) (id : ℕ) → listed_on (steps m cs) id ≡ object_pairs (geometry_of m) id (run (geometry_of m) (disc_of m (zones_of m)) cs).pieces
      listed cs id = reads_listed (geometry_of m) (run g s cs) (steps m cs) (run_reads cs) id

  pub same_lists_same_bytes : (cs ds : List Call) → SameLists (steps m cs) (steps m ds) → steps m cs ≡ steps m ds
  same_lists_same_bytes cs ds h =
      let p = same_lists_pieces cs ds h in
      let c = runs_cross_same (geometry_of m) s cs ds ok fit p in
      let d : run g s cs ≡ run g s ds = λ i. record { pieces = p i; cross = c i } in
      run_bytes m (zones_of m) ed.bytes ed.accepted ed.apart cs ∙ ap (written_map (geometry_of m) m) d ∙ sym (run_bytes m (zones_of m) ed.bytes ed.accepted ed.apart ds)

  -- the starting map is what the run of no calls leaves
  same_bytes : (cs : List Call) → SameLists m (steps m cs) → steps m cs ≡ m
  same_bytes cs h = sym (same_lists_same_bytes [] cs h)

  run_crosses : (cs : List Call) → map cross_of (blocks_of (geometry_of m) (steps m cs)) ≡ cross_run (geometry_of m) (edits_of m cs) (map cross_of (blocks_of (geometry_of m) m))
  run_crosses cs =
      let r = run_reads cs in
      ap (λ (x : Geometry). map cross_of (blocks_of x (steps m cs))) (sym r.4)
      ∙ ap (λ (d : Disc). d.cross) r.3 ∙ run_cross (geometry_of m) s cs
      ∙ ap (λ (es : List Edit). cross_run (geometry_of m) es s.cross) (sym (edits_same cs m (zones_of m) ed.bytes ed.accepted ed.apart))

  run_checks : (cs : List Call) (z : ℕ) → z < (geometry_of m).zones → CheckRule (zone_block (geometry_of m) (steps m cs) z)
  run_checks cs z h =
      let r = run_reads cs in
      let w = accepted_keeps_rules (steps m cs) r.0 r.1 in
      subst (λ (x : Geometry). z < x.zones → CheckRule (zone_block x (steps m cs) z)) r.4 (w.checks z) h

  -- a step of a run is a step on the map that the calls before it leave
  each_step : (before : List Call) (c : Call) (e : Edit) → Accepted (steps m before) c e → ReadsAfter (steps m before) e (steps m (before ++ c ∷ []))
  each_step before c e a = subst⁻¹ (ReadsAfter (steps m before) e) (steps_append before (c ∷ []) m) (reads_after (steps m before) (run_again before) c e a)

  pub run_claims : (cs : List Call) → RunLaws m cs
  run_claims cs = record {
    again = run_again cs;
    same_disc = (run_reads cs).4;
    each_step = λ before c rest e of_run a. each_step before c e a;
    same_pieces = λ h. (let e = same_bytes cs h in record { long = ap length e; bytes = λ i a b. ap (λ (x : List ℕ). get_or x i 0) e });
    undone = λ u. undone_bytes m (zones_of m) ed.bytes ed.accepted ed.apart cs (subst Undone (edits_same cs m (zones_of m) ed.bytes ed.accepted ed.apart) u);
    cross_checks = run_crosses cs;
    zone_checks_law = run_checks cs;
    same_bytes = same_bytes cs;
  }

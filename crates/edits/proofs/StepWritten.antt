-- Calls on a map that was written from pieces and cross checks: the check accepts it and reads them back, so a call writes
-- the pieces and cross checks after it, and so does a run.
use mathlib.Core.Path.{◌≡◌, refl, sym, ap, ap₂, ◌∙◌, subst⁻¹}
use mathlib.Core.Bool.{Bool, true, false}
use mathlib.Core.List.{List, [], ◌∷◌, map}
use mathlib.Core.Option.{Option, none}
use Prim.Native.Nat.{ℕ, zero, suc, ◌*◌, ◌<◌, ◌≤◌}
use native.Mathlib.Nat.{zero-add}
use native.Mathlib.Omega.{arith}
use lib.Dec.{leb}
use lib.ListN.{length, get_or}
use borrow.Author.Tests.{eq-eqb, le-leb}
use Rattle.bits.specs.Bits.{Bytes}
use Rattle.checks.specs.Cross.{cross_of}
use Rattle.geometry.specs.declared.Geometry.{Geometry}
use Rattle.geometry.specs.Record.{disc_record, geometry_in, geometry_of}
use Rattle.geometry.specs.Ranges.{record_fits}
use Rattle.geometry.specs.Accepted.{AcceptedGeometry}
use Rattle.geometry.specs.Places.{first_bit, end_bit}
use Rattle.model.specs.Chain.{Entry, touching}
use Rattle.model.specs.Blocks.{blocks, flat, block_at}
use Rattle.model.specs.Pieces.{pieces_of_zones}
use Rattle.model.specs.Shown.{zones_in}
use Rattle.model.specs.Answer.{Answer, and_then, refused, answered, unless}
use Rattle.model.specs.Check.{blocks_read, blocks_of, length_fits, map_read}
use Rattle.edits.specs.Edits.{Disc, in_zone, edit, Edit}
use Rattle.edits.specs.Judge.{Call, call_fits, by_touching, judge_rest, judge}
use Rattle.edits.proofs.PieceRuns.{obey, after, run}
use Rattle.edits.specs.Written.{written, to_block, rewritten}
use Rattle.edits.specs.Steps.{disc_of, by_read, outcome, bytes_after, step, steps}
use Rattle.edits.proofs.Slices.{Sized, flat_blocks, blocks_flat, sized_blocks, length_blocks, length_flat, block_of_flat, block_of_slice}
use Rattle.edits.proofs.MapWritten.{drawn_zones, none_touching, all_pieces_drawn, sized_written, count_written, cross_written, written_at, written_over}
use Rattle.edits.proofs.DiscKept.{AcceptedDisc, length_obey, disc_after, blocks_written}
use Rattle.edits.proofs.RecordKept.{same_record}
use Rattle.edits.proofs.BytesKept.{map_bytes_written}

-- a call's outcome, where the check accepts and no two free fragments touch: the verdict on the map's pieces
pub outcome_judged : (m : List ℕ) (ess : List (List Entry)) → map_read m ≡ answered ess → touching 0 ess ≡ none → (c : Call)
    → outcome m c ≡ judge (geometry_of m) none (disc_of m ess).pieces c
outcome_judged m ess accepted apart c = ap (λ (r : Answer (List (List Entry))). and_then r (by_read (geometry_of m) c)) accepted ∙ by_number (call_fits (geometry_of m) c) refl
  where
    by_number : (b : Bool) → call_fits (geometry_of m) c ≡ b
        → unless b 8 (by_touching (touching 0 ess) (judge_rest (geometry_of m) (disc_of m ess).pieces c)) ≡ judge (geometry_of m) none (disc_of m ess).pieces c
    by_number true e =
        ap (λ (o : Option ℕ). by_touching o (judge_rest (geometry_of m) (disc_of m ess).pieces c)) apart
        ∙ ap (λ (b : Bool). unless b 8 (judge_rest (geometry_of m) (disc_of m ess).pieces c)) (sym e)
    by_number false e = ap (λ (b : Bool). unless b 8 (judge_rest (geometry_of m) (disc_of m ess).pieces c)) (sym e)

-- a map of bytes whose record is accepted and gives g
pub record MapOf (g : Geometry) (m : List ℕ) : Type 0 where
  pub geometry : geometry_of m ≡ g
  pub record_fits_law : record_fits (disc_record m) ≡ true
  pub accepted : AcceptedGeometry g
  pub whole : length m ≡ g.zones * g.sector
  pub bytes : Bytes m

-- pieces and cross checks written over a map
abbrev pub written_map : Geometry → List ℕ → Disc → List ℕ
written_map g m s = flat (rewritten g (blocks_of g m) s)

product : (n s : ℕ) → 0 < n → 64 ≤ s → 64 ≤ n * s
product zero s h k = absurd (omega arith)
product (suc n) s h k = omega arith

three_tests : (b1 b2 b3 : Bool) (r x : Answer (List (List Entry))) → b1 ≡ true → b2 ≡ true → b3 ≡ true → r ≡ x → unless b1 1 (unless b2 2 (unless b3 1 r)) ≡ x
three_tests b1 b2 b3 r x p q k e = rw (p, q, k) e

module _ (g : Geometry) (m : List ℕ) (t : MapOf g m) where
  pub count_old : length (blocks_of g m) ≡ g.zones
  count_old = length_blocks g.sector g.zones m

  pub sized_old : Sized g.sector (blocks_of g m)
  sized_old = sized_blocks g.sector g.zones m t.whole

  pub sized_new : (s : Disc) → Sized g.sector (rewritten g (blocks_of g m) s)
  sized_new s = sized_written g s.pieces 0 s.cross (blocks_of g m) t.accepted sized_old

  pub count_new : (s : Disc) → length (rewritten g (blocks_of g m) s) ≡ g.zones
  count_new s = count_written g s.pieces 0 s.cross (blocks_of g m) ∙ count_old

  pub length_new_map : (s : Disc) → length (written_map g m s) ≡ g.zones * g.sector
  length_new_map s = length_flat g.sector (rewritten g (blocks_of g m) s) (sized_new s) ∙ ap (λ (n : ℕ). n * g.sector) (count_new s)

  pub blocks_of_new : (s : Disc) → blocks_of g (written_map g m s) ≡ rewritten g (blocks_of g m) s
  blocks_of_new s =
      ap (λ (n : ℕ). blocks g.sector n (written_map g m s)) (sym (count_new s))
      ∙ blocks_flat g.sector (rewritten g (blocks_of g m) s) (sized_new s)

  -- a zone's block
  pub block_new : (s : Disc) (z : ℕ) → length s.cross ≡ g.zones → z < g.zones
      → block_at g.sector z (written_map g m s) ≡ written g.idlen (first_bit z) (end_bit g) (map (to_block g z) (in_zone g z s.pieces)) (get_or s.cross z 0) (block_at g.sector z m)
  block_new s z e h =
      block_of_flat g.sector (rewritten g (blocks_of g m) s) z (sized_new s) (omega (arith, count_new s))
      ∙ written_at g s.pieces 0 s.cross (blocks_of g m) z (e ∙ sym count_old) (omega (arith, count_old))
      ∙ ap₂ (λ (i : ℕ) (b : List ℕ). written g.idlen (first_bit i) (end_bit g) (map (to_block g i) (in_zone g i s.pieces)) (get_or s.cross z 0) b) (zero-add z)
      (block_of_slice g.sector g.zones m z t.whole h)

  module _ (s : Disc) (h : AcceptedDisc g s) where
    cross_count : length s.cross ≡ length (blocks_of g m)
    cross_count = h.count ∙ sym count_old

    pub record_new : disc_record (written_map g m s) ≡ disc_record m
    record_new =
        same_record g s.pieces s.cross (blocks_of g m) t.accepted (omega (arith, count_old, t.accepted.zones_low)) sized_old
        (subst⁻¹ Bytes (flat_blocks g.sector g.zones m t.whole) t.bytes) cross_count
        ∙ ap disc_record (flat_blocks g.sector g.zones m t.whole)

    pub geometry_new : geometry_of (written_map g m s) ≡ g
    geometry_new = ap geometry_in record_new ∙ t.geometry

    pub bytes_new : Bytes (written_map g m s)
    bytes_new = map_bytes_written g s.pieces 0 s.cross (blocks_of g m) t.accepted h.pieces.fit h.bytes cross_count (omega (arith, count_old))

    -- the check accepts it, and reads the drawing
    pub read_new : map_read (written_map g m s) ≡ answered (drawn_zones g 0 g.zones s.pieces)
    read_new =
        let M = written_map g m s in
        let long : 64 ≤ g.zones * g.sector = product g.zones g.sector t.accepted.zones_low (omega (arith, t.accepted.sector_low)) in
        let a : leb 64 (length M) ≡ true = le-leb 64 (length M) (omega (arith, length_new_map s)) in
        let b : record_fits (disc_record M) ≡ true = ap record_fits record_new ∙ t.record_fits_law in
        let c : length_fits (geometry_of M) M ≡ true = subst⁻¹ (λ (x : Geometry). length_fits x M ≡ true) geometry_new (eq-eqb (length M) (g.zones * g.sector) (length_new_map s)) in
        let d : blocks_read (geometry_of M) (blocks_of (geometry_of M) M) ≡ answered (drawn_zones g 0 g.zones s.pieces) =
        subst⁻¹ (λ (x : Geometry). blocks_read x (blocks_of x M) ≡ answered (drawn_zones g 0 g.zones s.pieces)) geometry_new
        (ap (blocks_read g) (blocks_of_new s) ∙ blocks_written g t.accepted (blocks_of g m) s sized_old count_old h
        ∙ ap (λ (n : ℕ). answered (drawn_zones g 0 n s.pieces)) count_old) in
        three_tests (leb 64 (length M)) (record_fits (disc_record M)) (length_fits (geometry_of M) M) (blocks_read (geometry_of M) (blocks_of (geometry_of M) M)) _ a b c d

    -- and with it the pieces and cross checks that were written
    pub disc_new : disc_of (written_map g m s) (drawn_zones g 0 g.zones s.pieces) ≡ s
    disc_new =
        let M = written_map g m s in
        let ess = drawn_zones g 0 g.zones s.pieces in
        let p : pieces_of_zones (geometry_of M) 0 ess ≡ s.pieces = subst⁻¹ (λ (x : Geometry). pieces_of_zones x 0 ess ≡ s.pieces) geometry_new (all_pieces_drawn g s.pieces t.accepted h.pieces.fit) in
        let c : map cross_of (blocks_of (geometry_of M) M) ≡ s.cross =
        subst⁻¹ (λ (x : Geometry). map cross_of (blocks_of x M) ≡ s.cross) geometry_new
        (ap (map cross_of) (blocks_of_new s) ∙ cross_written g s.pieces 0 s.cross (blocks_of g m) cross_count) in
        λ i. record { pieces = p i; cross = c i }

    -- a call on it
    pub outcome_new : (c : Call) → outcome (written_map g m s) c ≡ judge g none s.pieces c
    outcome_new c =
        outcome_judged (written_map g m s) (drawn_zones g 0 g.zones s.pieces) read_new (none_touching g 0 g.zones s.pieces 0) c
        ∙ ap₂ (λ (x : Geometry) (r : Disc). judge x none r.pieces c) geometry_new disc_new

    -- writing over it is writing over the old map
    pub over_new : (r : Disc) → length r.cross ≡ g.zones → written_map (geometry_of (written_map g m s)) (written_map g m s) r ≡ written_map g m r
    over_new r e =
        let M = written_map g m s in
        subst⁻¹ (λ (x : Geometry). written_map x M r ≡ written_map g m r) geometry_new
        (ap (λ (x : List (List ℕ)). flat (rewritten g x r)) (blocks_of_new s)
        ∙ ap flat (written_over g t.accepted s.pieces r.pieces 0 s.cross r.cross (blocks_of g m) h.pieces.fit sized_old cross_count (e ∙ sym count_old) (omega (arith, count_old))))

    pub step_new : (c : Call) → step (written_map g m s) c ≡ written_map g m (after g s c)
    step_new c = ap (bytes_after (written_map g m s)) (outcome_new c) ∙ by_verdict (judge g none s.pieces c)
      where
        by_verdict : (v : Answer Edit) → bytes_after (written_map g m s) v ≡ written_map g m (obey g v s)
        by_verdict (refused n z) = refl
        by_verdict (answered e) =
            let M = written_map g m s in
            ap (λ (r : Answer (List (List Entry))). written_map (geometry_of M) M (edit (geometry_of M) e (disc_of M (zones_in r)))) read_new
            ∙ ap₂ (λ (x : Geometry) (r : Disc). written_map (geometry_of M) M (edit x e r)) geometry_new disc_new
            ∙ over_new (edit g e s) (length_obey g (answered e) s ∙ h.count)

  -- a run on it
  pub steps_new : (s : Disc) (cs : List Call) → AcceptedDisc g s → steps (written_map g m s) cs ≡ written_map g m (run g s cs)
  steps_new s [] h = refl
  steps_new s (c ∷ cs) h = ap (λ (x : List ℕ). steps x cs) (step_new s h c) ∙ steps_new (after g s c) cs (disc_after g t.accepted s c h)

-- Demand 2's and demand 3's statements on single steps: what an accepted call leaves, that a release with room is accepted, and that an
-- undo at once is accepted and restores every byte. Each goes from the bytes to the verdict on their pieces and back.
use mathlib.Core.Path.{◌≡◌, sym, ap, ap₂, ◌∙◌, subst⁻¹}
use mathlib.Core.Bool.{true, false, not, false≢true}
use mathlib.Core.List.{List, [], ◌∷◌}
use mathlib.Core.Option.{none}
use Prim.Native.Nat.{ℕ, ◌*◌, ◌<◌, ◌≤◌}
use native.Mathlib.Nat.{zero-add}
use native.Mathlib.Omega.{arith}
use lib.Bits.{bit_xor}
use lib.ListN.{length, get_or}
use Rattle.checks.specs.Cross.{cross_of, changes}
use Rattle.geometry.specs.declared.Geometry.{Geometry}
use Rattle.geometry.specs.Record.{geometry_of}
use Rattle.geometry.specs.Accepted.{AcceptedGeometry}
use Rattle.model.specs.Chain.{Pair, Entry, numbers_of}
use Rattle.model.specs.Pieces.{Piece, pieces_of_zones, object_pairs}
use Rattle.edits.specs.Edits.{Disc, without, Edit, takes, gives, edit, edit_id, pairs_in, touches, touched_zones}
use Rattle.model.specs.Answer.{Answer, refused, answered}
use Rattle.edits.specs.Judge.{Call, release, place, claim, is_empty, editable, judge}
use Rattle.edits.specs.Runs.{Undone, nothing, strike, released, restored}
use Rattle.edits.proofs.PieceRuns.{obey, edits}
use Rattle.edits.proofs.PieceRuns as on_pieces
use Rattle.edits.proofs.RunsKept.{release_tests, allowed, cross_edit}
use Rattle.edits.proofs.ReadsAfter.{ListedAfter, listed_after}
use Rattle.edits.proofs.Returned.{place_back, release_listed, release_back}
use Rattle.edits.specs.Steps.{disc_of, outcome, bytes_after, step, steps}
use Rattle.edits.specs.Editable.{Editable, NamedMoved, ReadsAfter}
use Rattle.model.specs.Shown.{zones_in, zones_of, listed_on}
use Rattle.runs.specs.Demand3.{Accepted}
use Rattle.edits.proofs.PiecesKept.{AcceptedPieces}
use Rattle.edits.proofs.StepWritten.{outcome_judged}
use Rattle.edits.proofs.MapAccepted.{map_geometry, map_disc}
use Rattle.edits.proofs.RunsOnBytes.{ReadsAs, reads_listed, reads_editable, undone_bytes, step_accepted, bytes_kept}
use Rattle.edits.proofs.ZonesAfter.{zone_cross_at, zone_edited, zone_untouched}
use Rattle.edits.proofs.ZonesTouched.{touched_at, each_at, touched_length, touches_told, told_touches, not_touched}
use Rattle.runs.proofs.BitsKept.{outside_kept}
use Rattle.runs.proofs.FreeBits.{free_after}
use Rattle.runs.proofs.EditsOf.{judged_done}
use Rattle.edits.proofs.PairsGiven.{none_listed, given_facts, given_placed}

pub refused_keeps : (m : List ℕ) (c : Call) (n z : ℕ) → outcome m c ≡ refused n z → step m c ≡ m
refused_keeps m c n z h = ap (bytes_after m) h

-- on a map that reads as a disc, a verdict is the outcome
pub reads_outcome : (g : Geometry) (s : Disc) (m : List ℕ) → ReadsAs g s m → (c : Call) (e : Edit) → judge g none s.pieces c ≡ answered e → Accepted m c e
reads_outcome g s m r c e h = outcome_judged m r.0 r.1 r.2 c ∙ ap₂ (λ (x : Geometry) (d : Disc). judge x none d.pieces c) r.4 r.3 ∙ h

two_edits : (g : Geometry) (s : Disc) (c d : Call) (a b : Edit) → judge g none s.pieces c ≡ answered a → judge g none (edit g a s).pieces d ≡ answered b
    → edits g s (c ∷ d ∷ []) ≡ a ∷ b ∷ []
two_edits g s c d a b h k =
    ap (λ (v : Answer Edit). on_pieces.kept v (edits g (obey g v s) (d ∷ []))) h ∙ ap (λ (v : Answer Edit). a ∷ on_pieces.kept v []) k

module _ (m : List ℕ) (ed : Editable m) where
  abbrev g : Geometry
  g = geometry_of m

  abbrev s : Disc
  s = disc_of m (zones_of m)

  ok : AcceptedGeometry (geometry_of m)
  ok = map_geometry m (zones_of m) ed.bytes ed.accepted

  pieces_ok : AcceptedPieces (geometry_of m) (disc_of m (zones_of m)).pieces
  pieces_ok = (map_disc m (zones_of m) ed.bytes ed.accepted).pieces

  pub verdict : (c : Call) (e : Edit) → Accepted m c e → judge (geometry_of m) none (disc_of m (zones_of m)).pieces c ≡ answered e
  verdict c e a = judged_done m (zones_of m) ed.accepted ed.apart c e a

  pub accept : (c : Call) (e : Edit) → judge (geometry_of m) none (disc_of m (zones_of m)).pieces c ≡ answered e → Accepted m c e
  accept c e h = (step_accepted m (zones_of m) ed.bytes ed.accepted ed.apart c e h).0

  after_reads : (c : Call) (e : Edit) → Accepted m c e → ReadsAs (geometry_of m) (edit (geometry_of m) e (disc_of m (zones_of m))) (step m c)
  after_reads c e a = (step_accepted m (zones_of m) ed.bytes ed.accepted ed.apart c e (verdict c e a)).2

  -- an edit and its undo leave every byte
  undo : (c d : Call) (a b : Edit) → judge (geometry_of m) none (disc_of m (zones_of m)).pieces c ≡ answered a
      → judge (geometry_of m) none (edit (geometry_of m) a (disc_of m (zones_of m))).pieces d ≡ answered b → Undone (a ∷ b ∷ []) → steps m (c ∷ d ∷ []) ≡ m
  undo c d a b h k u =
      undone_bytes m (zones_of m) ed.bytes ed.accepted ed.apart (c ∷ d ∷ []) (subst⁻¹ Undone (two_edits (geometry_of m) s c d a b h k) u)

  pub reads_after : (c : Call) (e : Edit) → Accepted m c e → ReadsAfter m e (step m c)
  reads_after c e a =
      let h = verdict c e a in
      let r = after_reads c e a in
      let fits = (allowed (geometry_of m) s.pieces c e ok pieces_ok.fit h).0 in
      let w = listed_after (geometry_of m) s e fits in
      let l = reads_listed (geometry_of m) (edit g e s) (step m c) r in
      let again = reads_editable (geometry_of m) (edit g e s) (step m c) r (bytes_kept m (zones_of m) ed.bytes ed.accepted ed.apart (c ∷ [])) in
      record {
        again = again;
        same_disc = r.4;
        moved = named e w l;
        others = λ id n. l id ∙ rest e w id n;
        free_bits = free_after m (step m c) ed again r.4 e fits
            (ap (λ (x : List (List Entry)). pieces_of_zones (geometry_of (step m c)) 0 x) (ap zones_in r.1) ∙ ap (λ (x : Disc). x.pieces) r.3);
        untouched = λ z k t. zone_untouched m (zones_of m) ed.bytes ed.accepted ed.apart c e h z k (not_touched g z (pairs_in e) t);
        all_zones = touched_length g (pairs_in e) 0 g.zones;
        touched = λ z k. (
          λ t. touches_told g z (pairs_in e) (sym (touched_here e z k) ∙ t),
          λ t. touched_here e z k ∙ told_touches g z (pairs_in e) t,
        );
        cross = λ z k.
            ap cross_of (zone_edited m (zones_of m) ed.bytes ed.accepted ed.apart c e h z k)
            ∙ ap (λ (cs : List ℕ). get_or cs z 0) (cross_edit g e s)
            ∙ each_at s.cross (changes (touched_zones g (pairs_in e))) z (omega (arith, (map_disc m (zones_of m) ed.bytes ed.accepted).count))
            ∙ ap (λ (x : ℕ). bit_xor x (get_or (changes (touched_zones g (pairs_in e))) z 0)) (zone_cross_at m (zones_of m) ed.bytes ed.accepted ed.apart z k);
        outside = outside_kept m (zones_of m) ed.bytes ed.accepted ed.apart (c ∷ []);
      }
    where
      touched_here : (e : Edit) (z : ℕ) → z < (geometry_of m).zones → get_or (touched_zones (geometry_of m) (pairs_in e)) z false ≡ touches (geometry_of m) z (pairs_in e)
      touched_here e z k = touched_at (geometry_of m) (pairs_in e) 0 (geometry_of m).zones z k ∙ ap (λ (j : ℕ). touches (geometry_of m) j (pairs_in e)) (zero-add z)

      named : (e : Edit) → ListedAfter (geometry_of m) s.pieces e (edit (geometry_of m) e s).pieces
          → ((id : ℕ) → listed_on (step m c) id ≡ object_pairs (geometry_of m) id (edit (geometry_of m) e s).pieces) → NamedMoved m e (step m c)
      named (takes id qs) w l = (w.0, l id ∙ w.1)
      named (gives id qs) w l = (w.0, l id ∙ w.1)

      rest : (e : Edit) → ListedAfter (geometry_of m) s.pieces e (edit (geometry_of m) e s).pieces → (id : ℕ) → (id ≡ edit_id e → ⊥)
          → object_pairs (geometry_of m) id (edit (geometry_of m) e s).pieces ≡ listed_on m id
      rest (takes id qs) w j n = w.2 j n
      rest (gives id qs) w j n = w.2 j n

  pub release_accepted : (id room : ℕ) → editable (geometry_of m) id ≡ true → (listed_on m id ≡ [] → ⊥) → 2 * length (listed_on m id) ≤ room
      → Accepted m (release id room) (takes id (listed_on m id))
  release_accepted id room t n r = accept (release id room) (takes id (listed_on m id)) (release_listed (geometry_of m) id room s.pieces t n r)

  pub release_place : (id room : ℕ) (qs : List Pair) → Accepted m (release id room) (takes id qs)
      → Accepted (step m (release id room)) (place id (numbers_of qs)) (gives id qs) × (steps m (release id room ∷ place id (numbers_of qs) ∷ []) ≡ m)
  release_place id room qs a =
      let P = s.pieces in
      let c = release id room in
      let e = takes id qs in
      let h = verdict c e a in
      let q : qs ≡ object_pairs (geometry_of m) id P = (allowed (geometry_of m) P c e ok pieces_ok.fit h).0 in
      let t = release_tests (geometry_of m) P id room e h in
      let k : judge (geometry_of m) none (without id P) (place id (numbers_of qs)) ≡ answered (gives id qs) =
      subst⁻¹ (λ (r : List Pair). judge (geometry_of m) none (without id P) (place id (numbers_of r)) ≡ answered (gives id r)) q
      (place_back (geometry_of m) ok id P pieces_ok.fit pieces_ok.clusters t.0
      (λ n. false≢true (sym (ap (λ (r : List Piece). not (is_empty r)) (none_listed (geometry_of m) id P n)) ∙ t.1))) in (
        reads_outcome (geometry_of m) (edit (geometry_of m) e s) (step m c) (after_reads c e a) (place id (numbers_of qs)) (gives id qs) k,
        undo c (place id (numbers_of qs)) e (gives id qs) h k (strike [] [] (restored id qs) nothing),
      )

  pub given_release : (c : Call) (id room : ℕ) (qs : List Pair) → Accepted m c (gives id qs) → 2 * length qs ≤ room
      → Accepted (step m c) (release id room) (takes id qs) × (steps m (c ∷ release id room ∷ []) ≡ m)
  given_release c id room qs a n =
      let P = s.pieces in
      let e = gives id qs in
      let h = verdict c e a in
      let f = given_facts (geometry_of m) ok P c id qs h in
      let k = release_back (geometry_of m) id room qs P (allowed (geometry_of m) P c e ok pieces_ok.fit h).0 f.ordinary f.some_pairs n in (
        reads_outcome (geometry_of m) (edit (geometry_of m) e s) (step m c) (after_reads c e a) (release id room) (takes id qs) k,
        undo c (release id room) e (takes id qs) h k (strike [] [] (released id qs qs) nothing),
      )

  pub claim_places : (size parent room id : ℕ) (qs : List Pair) → Accepted m (claim size parent room) (gives id qs)
      → Accepted m (place id (numbers_of qs)) (gives id qs) × (step m (place id (numbers_of qs)) ≡ step m (claim size parent room))
  claim_places size parent room id qs a =
      let h = verdict (claim size parent room) (gives id qs) a in
      let k = given_placed (geometry_of m) ok s pieces_ok (claim size parent room) id qs h in
      let x = step_accepted m (zones_of m) ed.bytes ed.accepted ed.apart (place id (numbers_of qs)) (gives id qs) k in
      let y = step_accepted m (zones_of m) ed.bytes ed.accepted ed.apart (claim size parent room) (gives id qs) h in
      (accept (place id (numbers_of qs)) (gives id qs) k, x.1 ∙ sym y.1)

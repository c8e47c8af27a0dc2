-- A run's outcomes on bytes are its verdicts on pieces: the accepted edits are the same, call by call.
use mathlib.Core.Path.{◌≡◌, refl, sym, ap, ap₂, ◌∙◌}
use mathlib.Core.List.{List, [], ◌∷◌}
use mathlib.Core.Option.{none}
use Prim.Native.Nat.{ℕ}
use Rattle.bits.specs.Bits.{Bytes}
use Rattle.geometry.specs.declared.Geometry.{Geometry}
use Rattle.geometry.specs.Record.{geometry_of}
use Rattle.model.specs.Chain.{Entry, touching}
use Rattle.model.specs.Answer.{Answer, refused, answered}
use Rattle.model.specs.Check.{map_read}
use Rattle.edits.specs.Edits.{Disc, Edit}
use Rattle.edits.specs.Judge.{Call, judge}
use Rattle.edits.proofs.PieceRuns.{obey, edits}
use Rattle.edits.proofs.PieceRuns as on_pieces
use Rattle.edits.specs.Steps.{disc_of, outcome, step}
use Rattle.runs.specs.Demand3.{kept, edits_of}
use Rattle.edits.proofs.StepWritten.{outcome_judged}
use Rattle.edits.proofs.RunsOnBytes.{step_refused, step_accepted, bytes_kept}

pub edits_same : (cs : List Call) (m : List ℕ) (ess : List (List Entry)) → Bytes m → map_read m ≡ answered ess → touching 0 ess ≡ none
    → edits_of m cs ≡ edits (geometry_of m) (disc_of m ess) cs
edits_same [] m ess b a t = refl
edits_same (c ∷ cs) m ess b a t = go (judge (geometry_of m) none (disc_of m ess).pieces c) refl (λ n x y z w. edits_same cs n x y z w)
  where
    g : Geometry
    g = geometry_of m

    go : (v : Answer Edit) → judge (geometry_of m) none (disc_of m ess).pieces c ≡ v
        → ((n : List ℕ) (x : List (List Entry)) → Bytes n → map_read n ≡ answered x → touching 0 x ≡ none → edits_of n cs ≡ edits (geometry_of n) (disc_of n x) cs)
        → kept (outcome m c) (edits_of (step m c) cs) ≡ on_pieces.kept v (edits (geometry_of m) (obey (geometry_of m) v (disc_of m ess)) cs)
    go (refused n z) h ih =
        let r = step_refused m ess b a t c n z h in
        ap₂ (λ (o : Answer Edit) (x : List ℕ). kept o (edits_of x cs)) r.0 r.1 ∙ ih m ess b a t
    go (answered e) h ih =
        let r = step_accepted m ess b a t c e h in
        let k = r.2 in
        ap (λ (o : Answer Edit). kept o (edits_of (step m c) cs)) r.0
        ∙ ap (λ (es : List Edit). e ∷ es)
        (ih (step m c) k.0 (bytes_kept m ess b a t (c ∷ [])) k.1 k.2 ∙ ap₂ (λ (x : Geometry) (s : Disc). edits x s cs) k.4 k.3)

-- an outcome that is an edit was judged so
pub judged_done : (m : List ℕ) (ess : List (List Entry)) → map_read m ≡ answered ess → touching 0 ess ≡ none → (c : Call) (e : Edit) → outcome m c ≡ answered e
    → judge (geometry_of m) none (disc_of m ess).pieces c ≡ answered e
judged_done m ess a t c e h = sym (outcome_judged m ess a t c) ∙ h

-- The chain of a drawing is followed back to its pieces, and what is followed, with no two free fragments touching, is the
-- chain of a drawing.
use mathlib.Core.Path.{◌≡◌, refl, sym, ap, ◌∙◌, subst⁻¹}
use mathlib.Core.Bool.{Bool, true, false, cond, not, ◌&&◌, false≢true}
use mathlib.Core.List.{List, [], ◌∷◌}
use mathlib.Core.Option.{some}
use Prim.Native.Nat.{ℕ, suc, ◌+◌, ◌-◌, ◌<◌, ◌≤◌}
use native.Mathlib.Nat.{zero-sub}
use native.Mathlib.Omega.{arith}
use lib.Dec.{eqb, ltb}
use borrow.Author.Tests.{eqb-true, eqb-false, eq-eqb, ne_eqb, lt-ltb, le-ltb, ltb-true, ltb-false}
use Rattle.bits.proofs.Tests.{by_test, both}
use Rattle.model.specs.Fragments.{Fragment}
use Rattle.model.specs.Chain.{owned, Entry, onward, follow, none_touch}
use Rattle.model.specs.Pieces.{Piece, owned_of}
use Rattle.model.specs.Drawing.{first_free, drawn_fragments, drawn_entries}
use Rattle.model.proofs.Followed.{Long, total, Followed, was_free, was_owned, followed, none_left}

-- the pieces lie apart between `at` and `end`
abbrev pub Lies : ℕ → ℕ → List Piece → Type 0
Lies at end [] = at ≤ end
Lies at end (p ∷ ps) = (at ≤ p.at.start) × (0 < p.at.len) × Lies (p.at.start + p.at.len) end ps

-- what is free lies ahead
ahead : (a at end : ℕ) (ps : List Piece) → 0 < a → a < at → Lies at end ps → a ≡ first_free at end ps → ⊥
ahead a at end [] z h l e =
    by_test (ltb at end)
    (λ t. let k : a ≡ at = simp t at e in omega arith)
    (λ t. let k : a ≡ 0 = simp t at e in omega arith)
ahead a at end (p ∷ ps) z h l e =
    by_test (ltb at p.at.start)
    (λ t. let k : a ≡ at = simp t at e in omega arith)
    (λ t. ahead a (p.at.start + p.at.len) end ps z (omega arith) l.2 (simp t at e))

-- a link that leads ahead, or nowhere
pub linked : (at x : ℕ) → (x < suc at → x ≡ 0) → cond (eqb (x - at) 0) 0 (at + (x - at)) ≡ x
linked at x h =
    by_test (eqb (x - at) 0)
    (λ t. simp t (sym (h (omega (arith, eqb-true)))))
    (λ t. simp t (omega (arith, eqb-false (x - at) 0 t)))

pub free_or_ahead : (a at end : ℕ) (ps : List Piece) → a < at → Lies at end ps → first_free at end ps < suc a → first_free at end ps ≡ 0
free_or_ahead a at end [] h l k =
    by_test (ltb at end)
    (λ t. let j : at < suc a = simp t at k in absurd (omega arith))
    (λ t. simp t)
free_or_ahead a at end (p ∷ ps) h l k =
    by_test (ltb at p.at.start)
    (λ t. let j : at < suc a = simp t at k in absurd (omega arith))
    (λ t. simp t (free_or_ahead a (p.at.start + p.at.len) end ps (omega arith) l.2 (simp t at k)))

-- a drawing is read back
drawn_piece : (end : ℕ) (p : Piece) (ps : List Piece) → 0 < p.at.start → 0 < p.at.len → Lies (p.at.start + p.at.len) end ps
    → follow (p.at.start + p.at.len) (first_free (p.at.start + p.at.len) end ps) (drawn_fragments (p.at.start + p.at.len) end ps) ≡ some (drawn_entries (p.at.start + p.at.len) end ps)
    → follow p.at.start (first_free (p.at.start + p.at.len) end ps) (record { id = p.owner; len = p.at.len } ∷ drawn_fragments (p.at.start + p.at.len) end ps)
    ≡ some (record { at = p.at; holder = owned p.owner } ∷ drawn_entries (p.at.start + p.at.len) end ps)
drawn_piece end p ps z k l ih = simp (ne_eqb p.at.start (first_free (p.at.start + p.at.len) end ps) (ahead p.at.start (p.at.start + p.at.len) end ps z (omega arith) l), ih)

pub follow_drawn : (at end : ℕ) (ps : List Piece) → 0 < at → Lies at end ps → follow at (first_free at end ps) (drawn_fragments at end ps) ≡ some (drawn_entries at end ps)
follow_drawn at end [] z l =
    by_test (ltb at end)
    (λ t. simp (t, eq-eqb at at refl, zero-sub at))
    (λ t. simp t)
follow_drawn at end (p ∷ ps) z l =
    let s = p.at.start in
    let a = p.at.start + p.at.len in
    let ih = follow_drawn a end ps (omega arith) l.2 in
    let d = drawn_piece end p ps (omega arith) l.1 l.2 ih in
    by_test (ltb at s)
    (λ t. let same : at + (s - at) ≡ s = omega (arith, ltb-true) in
    simp (t, eq-eqb at at refl, linked at (first_free a end ps) (free_or_ahead at a end ps (omega (arith, ltb-true)) l.2), same, d))
    (λ t. let same : at ≡ s = omega (arith, ltb-false) in
    simp t (rw same d))

-- the first owned piece stands at once, or nothing is left
abbrev Starts : ℕ → ℕ → List Piece → Type 0
Starts at end [] = at ≡ end
Starts at end (p ∷ ps) = p.at.start ≡ at

starts : (at next end : ℕ) (fs : List Fragment) (es : List Entry) → at + total fs ≡ end → follow at next fs ≡ some es → none_touch true es ≡ true → Starts at end (owned_of es)
starts at next end [] es t e c = subst⁻¹ (λ (r : List Entry). Starts at end (owned_of r)) (none_left at next es e).1 (omega arith)
starts at next end (f ∷ fs) es t e c = go es (followed at next f fs es e) c
  where
    go : (es : List Entry) → Followed at next f fs es → none_touch true es ≡ true → Starts at end (owned_of es)
    go es (was_free gs h k) c = absurd (false≢true c)
    go es (was_owned gs h k) c = refl

same_frags : {i j m n : ℕ} (fs : List Fragment) → i ≡ j → m ≡ n → ◌≡◌ {A = List Fragment} (record { id = i; len = m } ∷ fs) (record { id = j; len = n } ∷ fs)
same_frags fs p q = λ i. record { id = p i; len = q i } ∷ fs

-- a link, from where it leads
pub link_back : (at id x : ℕ) → onward at id ≡ x → id ≡ x - at
link_back at id x e =
    by_test (eqb id 0)
    (λ h. let k : 0 ≡ x = simp h at e in omega (arith, eqb-true))
    (λ h. let k : at + id ≡ x = simp h at e in omega arith)

free_step : (at end id len : ℕ) (ps : List Piece) → 0 < at → 0 < len → Starts (at + len) end ps → onward at id ≡ first_free (at + len) end ps
    → (◌≡◌ {A = List Fragment} (record { id = id; len = len } ∷ drawn_fragments (at + len) end ps) (drawn_fragments at end ps)) × (at ≡ first_free at end ps)
free_step at end id len [] z k s e =
    let t1 = le-ltb (at + len) end (omega arith) in
    let t2 = lt-ltb at end (omega arith) in
    let e2 : onward at id ≡ 0 = simp t1 at e in
    (simp (t1, t2) (same_frags [] (link_back at id 0 e2) (omega arith)), simp t2)
free_step at end id len (p ∷ ps) z k s e =
    let t1 = le-ltb (at + len) p.at.start (omega arith) in
    let t2 = lt-ltb at p.at.start (omega arith) in
    let e2 : onward at id ≡ first_free (p.at.start + p.at.len) end ps = simp t1 at e in
    (simp (t1, t2) (same_frags _ (link_back at id _ e2) (omega arith)), simp t2)

abbrev pub Drawn : ℕ → ℕ → ℕ → List Fragment → List Entry → Type 0
Drawn at next end fs es = (fs ≡ drawn_fragments at end (owned_of es)) × (next ≡ first_free at end (owned_of es))

pub drawn_follow : (at next end : ℕ) (b : Bool) (fs : List Fragment) (es : List Entry) → 0 < at → Long fs → at + total fs ≡ end → follow at next fs ≡ some es → none_touch b es ≡ true → Drawn at next end fs es
drawn_follow at next end b [] es z l t e c =
    let n = none_left at next es e in
    let h = le-ltb at end (omega arith) in
    subst⁻¹ (λ (r : List Entry). Drawn at next end [] r) n.1 (simp h, simp h n.0)
drawn_follow at next end b (f ∷ fs) es z l t e c = go es (followed at next f fs es e) c
    (λ next2 b2 gs e2 c2. drawn_follow (at + f.len) next2 end b2 fs gs (omega arith) l.1 (omega arith) e2 c2)
  where
    go : (es : List Entry) → Followed at next f fs es → none_touch b es ≡ true
        → ((next2 : ℕ) (b2 : Bool) (gs : List Entry) → follow (at + f.len) next2 fs ≡ some gs → none_touch b2 gs ≡ true → Drawn (at + f.len) next2 end fs gs)
        → Drawn at next end (f ∷ fs) es
    go es (was_free gs h k) c ih =
        let c2 = (both (not (b && true)) (none_touch true gs) c).1 in
        let d = ih (onward at f.id) true gs k c2 in
        let r = free_step at end f.id f.len (owned_of gs) z l.0 (starts (at + f.len) (onward at f.id) end fs gs (omega arith) k c2) d.1 in
        (ap (λ (q : List Fragment). f ∷ q) d.0 ∙ r.0, sym h ∙ r.1)
    go es (was_owned gs h k) c ih =
        let c2 = (both (not (b && false)) (none_touch false gs) c).1 in
        let d = ih next false gs k c2 in
        let t1 = le-ltb at at (omega arith) in
        (simp t1 (ap (λ (q : List Fragment). f ∷ q) d.0), simp t1 d.1)

-- what is read lies apart, whether or not free fragments touch
lies_from : (a at end : ℕ) (ps : List Piece) → a ≤ at → Lies at end ps → Lies a end ps
lies_from a at end [] h l = omega arith
lies_from a at end (p ∷ ps) h l = (omega arith, l.1, l.2)

pub follow_lies : (at next end : ℕ) (fs : List Fragment) (es : List Entry) → Long fs → at + total fs ≡ end → follow at next fs ≡ some es → Lies at end (owned_of es)
follow_lies at next end [] es l t e = subst⁻¹ (λ (r : List Entry). Lies at end (owned_of r)) (none_left at next es e).1 (omega arith)
follow_lies at next end (f ∷ fs) es l t e = go es (followed at next f fs es e) (λ n gs k. follow_lies (at + f.len) n end fs gs l.1 (omega arith) k)
  where
    go : (es : List Entry) → Followed at next f fs es → ((n : ℕ) (gs : List Entry) → follow (at + f.len) n fs ≡ some gs → Lies (at + f.len) end (owned_of gs)) → Lies at end (owned_of es)
    go es (was_free gs h k) ih = lies_from at (at + f.len) end (owned_of gs) (omega arith) (ih (onward at f.id) gs k)
    go es (was_owned gs h k) ih = (omega arith, l.0, ih next gs k)

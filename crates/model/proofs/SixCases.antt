-- 6 in the table's three cases: bits are fragments by the rules to their end, or up to a place where one of the cases holds; never both.
-- Which it is, is found fragment by fragment.
use mathlib.Core.Path.{◌≡◌, refl, sym, ap, ◌∙◌, subst, subst⁻¹}
use mathlib.Core.Bool.{Bool, true, false}
use mathlib.Core.List.{List, [], ◌∷◌, ◌++◌, append_assoc}
use mathlib.Core.Option.{Option, none, some}
use mathlib.Core.Logic.{◌⊎◌, inl, inr}
use Prim.Native.Nat.{ℕ, zero, suc, ◌+◌, ◌-◌, ◌%◌, ◌^◌, ◌<◌, ◌≤◌}
use native.Mathlib.Omega.{arith}
use lib.Dec.{eqb, leb}
use lib.ListN.{length, take, drop, replicate, length-append, length-take, length-drop, length-replicate, take-append-drop}
use borrow.Author.Tests.{eqb-true, eqb-false, leb-true, leb-false}
use Rattle.bits.specs.Bits.{number_bits, value}
use Rattle.bits.proofs.Tests.{by_test}
use Rattle.bits.proofs.Digits.{bits_value, value_lt}
use Rattle.geometry.specs.declared.Geometry.{Geometry}
use Rattle.geometry.specs.Accepted.{AcceptedGeometry}
use Rattle.geometry.specs.Places.{first_bit, end_bit}
use Rattle.model.specs.Fragments.{Fragment, closed, fragment_then, fragment_bits, Formed, InClusters, edge, within, cut}
use Rattle.model.specs.Blocks.{alloc_bits}
use Rattle.model.specs.Rules.{FragmentRule}
use Rattle.model.specs.Table.{ZoneFault, six, five, seven, SixLeft, few_left, not_closed, not_whole, SixCase}
use Rattle.model.proofs.Options.{none_some, some_some}
use Rattle.model.proofs.FragmentsRead.{cut_some, cut_none}
use Rattle.model.proofs.ZoneJudged.{fragments_read}

-- a fragment and what follows it
fragment_then_law : (idlen : ℕ) (f : Fragment) (fs : List Fragment) (rest : List Bool)
    → fragment_bits idlen (f ∷ fs) ++ rest ≡ fragment_then idlen f (fragment_bits idlen fs ++ rest)
fragment_then_law idlen f fs rest =
    append_assoc (number_bits idlen f.id) (closed (f.len - suc idlen) (fragment_bits idlen fs)) rest
    ∙ ap (λ (x : List Bool). number_bits idlen f.id ++ x) (append_assoc (replicate (f.len - suc idlen) false) (true ∷ fragment_bits idlen fs) rest)

-- bits that cannot be read: too few for an id and a closing bit, or none that closes
short_none : (n k : ℕ) (bs : List Bool) → length bs ≤ k → cut n (within k) bs ≡ none
short_none n k [] h = refl
short_none n zero (b ∷ bs) h = absurd (omega arith)
short_none n (suc k) (b ∷ bs) h = simp (short_none n k bs (omega arith))

zeros_none : (n k : ℕ) (xs : List Bool) (z : ℕ) → length xs ≡ k → cut n (within k) (xs ++ replicate z false) ≡ none
zeros_none n zero [] zero e = refl
zeros_none n zero [] (suc z) e = simp (zeros_none n zero [] z refl)
zeros_none n zero (x ∷ xs) z e = absurd (omega arith)
zeros_none n (suc k) [] z e = absurd (omega arith)
zeros_none n (suc k) (x ∷ xs) z e = simp (zeros_none n k xs z (omega arith))

edge_none : (n : ℕ) (bs : List Bool) → 0 < length bs → cut n (within (suc n)) bs ≡ none → cut n edge bs ≡ none
edge_none n [] h e = absurd (omega arith)
edge_none n (b ∷ bs) h e = e

-- one of the three cases excludes fragments by the rules
module _ (n k : ℕ) where
  abbrev idlen : ℕ
  idlen = suc n

  left_excludes : (left : List Bool) → SixLeft (suc n) k left → (fs : List Fragment) → cut n edge left ≡ some fs → InClusters k fs → ⊥
  left_excludes left (few_left l h) fs e c = none_some (sym (edge_none n left l (short_none n (suc n) left (omega arith))) ∙ e)
  left_excludes left (not_closed l h) fs e c =
      let s : left ≡ take (suc n) left ++ replicate (length left - suc n) false = sym (take-append-drop (suc n) left) ∙ ap (λ (x : List Bool). take (suc n) left ++ x) h in
      let t : length (take (suc n) left) ≡ suc n = simp length-take (omega arith) in
      none_some (sym (edge_none n left (omega arith) (ap (cut n (within (suc n))) s ∙ zeros_none n (suc n) (take (suc n) left) (length left - suc n) t)) ∙ e)
  left_excludes left (not_whole f rest q w d) fs e c = go (cut n edge rest) refl
    where
      go : (r : Option (List Fragment)) → cut n edge rest ≡ r → ⊥
      go none u = none_some (sym (ap (cut n edge) q ∙ cut_none n f rest u) ∙ e)
      go (some gs) u =
          let p : f ∷ gs ≡ fs = some_some (sym (ap (cut n edge) q ∙ cut_some n f rest gs w u) ∙ e) in
          d (subst⁻¹ (InClusters k) p c).0

  case_excludes : (passed : List Fragment) (left : List Bool) → Formed (suc n) passed → SixLeft (suc n) k left
      → (fs : List Fragment) → cut n edge (fragment_bits (suc n) passed ++ left) ≡ some fs → InClusters k fs → ⊥
  case_excludes [] left w s fs e c = left_excludes left s fs e c
  case_excludes (f ∷ passed) left w s fs e c =
      go (cut n edge (fragment_bits (suc n) passed ++ left)) refl (λ gs u d. case_excludes passed left w.2 s gs u d)
    where
      go : (r : Option (List Fragment)) → cut n edge (fragment_bits (suc n) passed ++ left) ≡ r
          → ((gs : List Fragment) → cut n edge (fragment_bits (suc n) passed ++ left) ≡ some gs → InClusters k gs → ⊥) → ⊥
      go none u ih = none_some (sym (ap (cut n edge) (fragment_then_law (suc n) f passed left) ∙ cut_none n f (fragment_bits (suc n) passed ++ left) u) ∙ e)
      go (some gs) u ih =
          let p : f ∷ gs ≡ fs = some_some (sym (ap (cut n edge) (fragment_then_law (suc n) f passed left) ∙ cut_some n f (fragment_bits (suc n) passed ++ left) gs (w.0, w.1, tt) u) ∙ e) in
          ih gs u (subst⁻¹ (InClusters k) p c).1

-- bits as fragments by the rules, or as far as they go
record Whole (idlen k : ℕ) (bits : List Bool) : Type 0 where
  fragments : List Fragment
  fill : bits ≡ fragment_bits idlen fragments
  formed : Formed idlen fragments
  clusters : InClusters k fragments

record Stopped (idlen k : ℕ) (bits : List Bool) : Type 0 where
  passed : List Fragment
  left : List Bool
  fill : bits ≡ fragment_bits idlen passed ++ left
  formed : Formed idlen passed
  clusters : InClusters k passed
  fault : SixLeft idlen k left

-- the first 1 of some bits
first_one : (bs : List Bool) → (bs ≡ replicate (length bs) false) ⊎ ((z : ℕ) × (rest : List Bool) × (bs ≡ closed z rest))
first_one [] = inl refl
first_one (true ∷ bs) = inr (0, bs, refl)
first_one (false ∷ bs) = go (first_one bs)
  where
    go : (bs ≡ replicate (length bs) false) ⊎ ((z : ℕ) × (rest : List Bool) × (bs ≡ closed z rest))
        → (false ∷ bs ≡ replicate (length (false ∷ bs)) false) ⊎ ((z : ℕ) × (rest : List Bool) × (false ∷ bs ≡ closed z rest))
    go (inl e) = inl (ap (λ (x : List Bool). false ∷ x) e)
    go (inr p) = inr (suc p.0, p.1, ap (λ (x : List Bool). false ∷ x) p.2)

module _ (idlen k : ℕ) where
  stop_here : (bits : List Bool) → SixLeft idlen k bits → Stopped idlen k bits
  stop_here bits s = record { passed = []; left = bits; fill = refl; formed = tt; clusters = tt; fault = s }

  further : (bits rest : List Bool) (f : Fragment) → bits ≡ fragment_then idlen f rest → Formed idlen (f ∷ []) → f.len % k ≡ 0
      → Whole idlen k rest ⊎ Stopped idlen k rest → Whole idlen k bits ⊎ Stopped idlen k bits
  further bits rest f e w c (inl a) = inl (record {
    fragments = f ∷ a.fragments;
    fill = e ∙ ap (fragment_then idlen f) a.fill;
    formed = (w.0, w.1, a.formed);
    clusters = (c, a.clusters);
  })
  further bits rest f e w c (inr a) = inr (record {
    passed = f ∷ a.passed;
    left = a.left;
    fill = e ∙ ap (fragment_then idlen f) a.fill ∙ sym (fragment_then_law idlen f a.passed a.left);
    formed = (w.0, w.1, a.formed);
    clusters = (c, a.clusters);
    fault = a.fault;
  })

  no_bits : Whole idlen k []
  no_bits = record { fragments = []; fill = refl; formed = tt; clusters = tt }

  -- at most n bits
  go_on : (n : ℕ) (bits : List Bool) → length bits ≤ n → Whole idlen k bits ⊎ Stopped idlen k bits
  go_on zero [] h = inl no_bits
  go_on zero (b ∷ bs) h = absurd (omega arith)
  go_on (suc n) [] h = inl no_bits
  go_on (suc n) (b ∷ bs) h =
      by_test (leb (idlen + 1) (length (b ∷ bs)))
      (λ t. enough (leb-true (idlen + 1) (length (b ∷ bs)) t) (λ rest l. go_on n rest l) (first_one (drop idlen (b ∷ bs))))
      (λ t. inr (stop_here (b ∷ bs) (few_left (omega arith) (omega (arith, leb-false (idlen + 1) (length (b ∷ bs)) t)))))
    where
      enough : idlen + 1 ≤ length (b ∷ bs) → ((rest : List Bool) → length rest ≤ n → Whole idlen k rest ⊎ Stopped idlen k rest) → (drop idlen (b ∷ bs) ≡ replicate (length (drop idlen (b ∷ bs))) false) ⊎ ((z : ℕ) × (rest : List Bool) × (drop idlen (b ∷ bs) ≡ closed z rest))
          → Whole idlen k (b ∷ bs) ⊎ Stopped idlen k (b ∷ bs)
      enough l ih (inl e) = inr (stop_here (b ∷ bs) (not_closed l (e ∙ ap (λ (x : ℕ). replicate x false) (length-drop idlen (b ∷ bs)))))
      enough l ih (inr p) =
          let z = p.0 in
          let rest = p.1 in
          let id = value (take idlen (b ∷ bs)) in
          let f : Fragment = record { id = id; len = suc (idlen + z) } in
          let t : length (take idlen (b ∷ bs)) ≡ idlen = simp length-take (omega arith) in
          let i : number_bits idlen id ≡ take idlen (b ∷ bs) = subst (λ (x : ℕ). number_bits x id ≡ take idlen (b ∷ bs)) t (bits_value (take idlen (b ∷ bs))) in
          let y : z ≡ suc (idlen + z) - suc idlen = omega arith in
          let e : b ∷ bs ≡ number_bits idlen id ++ closed (suc (idlen + z) - suc idlen) rest =
          sym (take-append-drop idlen (b ∷ bs)) ∙ (λ j. sym i j ++ (p.2 ∙ ap (λ (x : ℕ). closed x rest) y) j) in
          let w : Formed idlen (f ∷ []) = (subst (λ (x : ℕ). id < 2 ^ x) t (value_lt (take idlen (b ∷ bs))), omega arith, tt) in
          let s : length rest ≤ n = omega (arith, ap length p.2, length-append (replicate z false) (true ∷ rest), length-replicate z false, length-drop idlen (b ∷ bs)) in
          by_test (eqb (suc (idlen + z) % k) 0)
          (λ c. further (b ∷ bs) rest f e w (eqb-true _ _ c) (ih rest s))
          (λ c. inr (stop_here (b ∷ bs) (not_whole f rest e w (eqb-false _ _ c))))

-- of a zone
module _ (g : Geometry) (ok : AcceptedGeometry g) (z : ℕ) (block : List ℕ) where
  whole_id : suc (g.idlen - 1) ≡ g.idlen
  whole_id = omega (arith, ok.idlen_low)

  pub case_is_six : SixCase g z block → ZoneFault g z block 6
  case_is_six s = six (λ fs r.
      case_excludes (g.idlen - 1) g.cluster s.passed s.left
      (subst⁻¹ (λ (x : ℕ). Formed x s.passed) whole_id s.formed) (subst⁻¹ (λ (x : ℕ). SixLeft x g.cluster s.left) whole_id s.fault)
      fs (ap (cut (g.idlen - 1) edge) (ap (λ (x : ℕ). fragment_bits x s.passed ++ s.left) whole_id ∙ sym s.fill) ∙ fragments_read g ok z block fs r) r.clusters)

  pub six_is_case : ZoneFault g z block 6 → SixCase g z block
  six_is_case t = go (go_on g.idlen g.cluster (length bits) bits (omega arith))
    where
      none_fill : (n : ℕ) → ZoneFault g z block n → n ≡ 6 → (fs : List Fragment) → FragmentRule g z block fs → ⊥
      none_fill n (six f) e = f
      none_fill n (five fs r c) e = absurd (omega arith)
      none_fill n (seven fs r c o) e = absurd (omega arith)

      bits : List Bool
      bits = alloc_bits (first_bit z) (end_bit g) block

      go : Whole g.idlen g.cluster bits ⊎ Stopped g.idlen g.cluster bits → SixCase g z block
      go (inl a) = absurd (none_fill 6 t refl a.fragments (record { fill = a.fill; formed = a.formed; clusters = a.clusters }))
      go (inr a) = record { passed = a.passed; left = a.left; fill = a.fill; formed = a.formed; clusters = a.clusters; fault = a.fault }

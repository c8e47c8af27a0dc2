-- Each promise says which definition its numbers and its bytes equal; a refusal or a value found decides what that comes to.
use mathlib.Core.Path.{◌≡◌, refl, sym, ap, ◌∙◌, subst⁻¹}
use mathlib.Core.Bool.{Bool, cond}
use mathlib.Core.List.{List, ◌++◌}
use mathlib.Core.Logic.{◌↔◌}
use Prim.Native.Nat.{ℕ, ◌+◌, ◌*◌, ◌<◌}
use native.Mathlib.Omega.{arith}
use lib.ListN.{length, get_or, take, drop, length-append}
use lib.Seq.{take_at, drop_at}
use Rattle.std.specs.Prelude.{Result, Ok, Err}
use Rattle.geometry.specs.declared.Geometry.{Geometry}
use Rattle.geometry.specs.declared.Refusal.{Refusal}
use Rattle.claim.specs.declared.Given.{Given}
use Rattle.copies.specs.declared.Chosen.{Chosen}
use Rattle.copies.specs.declared.Which.{Which}
use Rattle.copies.specs.declared.Which.TheVariants.{First, Second}
use Rattle.bits.specs.Bits.{Bytes}
use Rattle.bits.proofs.Tests.{by_test}
use Rattle.model.specs.Answer.{Answer, refused, answered}
use Rattle.model.specs.Chain.{Pair, numbers_of}
use Rattle.model.specs.Check.{map_read}
use Rattle.model.proofs.Lists.{length_numbers}
use Rattle.model.proofs.LinesJudged.{table_answered}
use Rattle.map.specs.Checked.{Checks, check_told, check_numbers}
use Rattle.listing.specs.Listed.{Lists, list_numbers, list_told, list_after}
use Rattle.address.specs.Address.{address_told}
use Rattle.sweep.specs.Sweep.{sweep_told, image_after}
use Rattle.edits.specs.Edits.{Edit, takes, gives}
use Rattle.edits.specs.Judge.{release, place, claim}
use Rattle.edits.specs.Steps.{outcome, pairs_told, bytes_after, step}
use Rattle.edits.specs.Editable.{Editable}
use Rattle.edits.specs.Room.{In}
use Rattle.release.specs.Released.{Releases}
use Rattle.place.specs.Placed.{Places, place_told}
use Rattle.claim.specs.Claimed.{Claims, claim_told}
use Rattle.runs.proofs.StepLaws.{release_place, given_release}
use Rattle.copies.specs.Copies.{copy_found, part_of, same_bytes, choice_numbers, choice_told, Chooses, copy_told, target_after, addresses_told}
use Rattle.copies.proofs.SameBytes.{equal_exactly}
use Rattle.copies.proofs.Over.{copy_by_table}
use Rattle.mended.specs.Mended.{changed_at, positions_found}
use Rattle.mended.proofs.InOrder.{refused_stays}
use Rattle.mended.proofs.Positions.{positions_listed, positions_exact}
use Rattle.mend.specs.Mends.{mend_told, Mending, positions_told, positions_after, ListsChanges}
use Rattle.formatted.specs.Drawn.{format_found, buffer_after, length_found}
use Rattle.formatted.proofs.MapDrawn.{formats, wanted}
use Rattle.format.specs.Formats.{format_numbers, format_told, Formatting, length_answer, length_told, TellsLength}
use Rattle.bench.specs.Tells.{ListTells, ReleaseTells, ClaimTells, ChoiceTells, PositionsTells, FormatTells}
use Rattle.bench.proofs.answers_told.Goals as goal

listed : (found : Answer (List Pair)) (old : List ℕ) (r : Result ℕ Refusal) (new : List ℕ) → Lists found old r new → ListTells found old r new
listed found old r new p = record {
  refused_told = λ n z e. (p.numbers ∙ ap list_told e, p.list ∙ ap (list_after old) e);
  accepted_told = λ qs e. (p.numbers ∙ ap list_told e, p.list ∙ ap (list_after old) e);
}

released : (m : List ℕ) (id : ℕ) (old : List ℕ) (r : Result ℕ Refusal) (after new : List ℕ) → Releases m id old r after new → ReleaseTells m id old r after new
released m id old r after new p =
    let l = listed (pairs_told (outcome m (release id (length old)))) old r new p.lists in
    record {
      refused_told = λ n z e. (let t = l.refused_told n z (ap pairs_told e) in (t.0, t.1, p.bytes ∙ ap (bytes_after m) e));
      accepted_told = λ qs e. l.accepted_told qs (ap pairs_told e);
    }

placed_back : (m : List ℕ) → Editable m → (id : ℕ) (old : List ℕ) (r : Result ℕ Refusal) (after new : List ℕ) → Releases m id old r after new
    → (qs : List Pair) → outcome m (release id (length old)) ≡ answered (takes id qs)
    → (s : Result (Unit {0}) Refusal) (end : List ℕ) → Places after id (take (2 * length qs) new) s end → ((outcome after (place id (take (2 * length qs) new))) ≡ answered (gives id qs)) × (end ≡ m)
placed_back m ed id old r after new p qs e s end q =
    let c = release id (length old) in
    let list : take (2 * length qs) new ≡ numbers_of qs =
    ap (take (2 * length qs)) ((released m id old r after new p).accepted_told qs e).1 ∙ take_at (numbers_of qs) (drop (2 * length qs) old) (2 * length qs) (length_numbers qs) in
    let u = release_place m ed id (length old) qs e in
    let same : (x l : List ℕ) → x ≡ step m c → l ≡ numbers_of qs → (outcome x (place id l) ≡ answered (gives id qs)) × (step x (place id l) ≡ m) =
    λ x l ex el. ((λ i. outcome (ex i) (place id (el i))) ∙ u.0, (λ i. step (ex i) (place id (el i))) ∙ u.1) in
    let t = same after (take (2 * length qs) new) p.bytes list in
    (t.0, q.bytes ∙ t.1)

claimed : (m : List ℕ) (size parent : ℕ) (old : List ℕ) (r : Result Given Refusal) (after new : List ℕ) → Claims m size parent old r after new → ClaimTells m size parent old r after new
claimed m size parent old r after new p = record {
  refused_told = λ n z e. (p.numbers ∙ ap claim_told e, p.list ∙ ap (λ (x : Answer Edit). list_after old (pairs_told x)) e, p.bytes ∙ ap (bytes_after m) e);
  accepted_told = λ id qs e. (p.numbers ∙ ap claim_told e, p.list ∙ ap (λ (x : Answer Edit). list_after old (pairs_told x)) e);
}

released_back : (m : List ℕ) → Editable m → (size parent : ℕ) (old : List ℕ) (r : Result Given Refusal) (after new : List ℕ) → Claims m size parent old r after new
    → (id : ℕ) (qs : List Pair) → outcome m (claim size parent (length old)) ≡ answered (gives id qs)
    → (s : Result ℕ Refusal) (end list : List ℕ) → Releases after id new s end list → (list_numbers s ≡ (0, 0, length qs)) × (list ≡ new) × (end ≡ m)
released_back m ed size parent old r after new p id qs e s end list q =
    let c = claim size parent (length old) in
    let t = (claimed m size parent old r after new p).accepted_told id qs e in
    let size_is : length new ≡ 2 * length qs + length (drop (2 * length qs) old) = ap length t.1 ∙ length-append (numbers_of qs) (drop (2 * length qs) old) ∙ ap (λ (n : ℕ). n + length (drop (2 * length qs) old)) (length_numbers qs) in
    let u = given_release m ed c id (length new) qs e (omega (arith, size_is)) in
    let same : (x : List ℕ) → x ≡ step m c → (outcome x (release id (length new)) ≡ answered (takes id qs)) × (step x (release id (length new)) ≡ m) =
    λ x ex. ((λ i. outcome (ex i) (release id (length new))) ∙ u.0, (λ i. step (ex i) (release id (length new))) ∙ u.1) in
    let v = same after p.bytes in
    let l = (released after id new s end list q).accepted_told qs v.0 in
    let k : drop (2 * length qs) new ≡ drop (2 * length qs) old = ap (drop (2 * length qs)) t.1 ∙ drop_at (numbers_of qs) (drop (2 * length qs) old) (2 * length qs) (length_numbers qs) in
    (l.0, l.1 ∙ ap (λ (x : List ℕ). numbers_of qs ++ x) k ∙ sym t.1, q.bytes ∙ v.1)

changed : (m old : List ℕ) (r : Result ℕ Refusal) (new : List ℕ) → ListsChanges m old r new → PositionsTells (positions_found m (length old)) old r new
changed m old r new p = record {
  refused_told = λ n z e. (p.numbers ∙ ap positions_told e, p.list ∙ ap (positions_after old) e);
  accepted_told = λ ps e. (p.numbers ∙ ap positions_told e, p.list ∙ ap (positions_after old) e);
}

listed_changed : (m old : List ℕ) (r : Result ℕ Refusal) (new : List ℕ) → ListsChanges m old r new → (ps : List ℕ) → positions_found m (length old) ≡ answered ps
    → (s : Result (Unit {0}) Refusal) (after : List ℕ) → Mending m s after → Bytes m
    → (i : ℕ) → In i (take (length ps) new) ↔ ((i < length m) × (get_or m i 0 ≡ get_or after i 0 → ⊥))
listed_changed m old r new p ps e s after q bytes i =
    let list : take (length ps) new ≡ changed_at m =
    ap (take (length ps)) ((changed m old r new p).accepted_told ps e).1 ∙ take_at ps (drop (length ps) old) (length ps) refl ∙ positions_listed m (length old) ps e in
    subst⁻¹ (λ (x : List ℕ). In i x ↔ ((i < length m) × (get_or m i 0 ≡ get_or after i 0 → ⊥))) list
    (subst⁻¹ (λ (x : List ℕ). In i (changed_at m) ↔ ((i < length m) × (get_or m i 0 ≡ get_or x i 0 → ⊥))) q.bytes (positions_exact m bytes i))

-- the equality is told by itself: told numbers differ in it alone
chosen : (a b : List ℕ) (c : Chosen) → Chooses a b c → ChoiceTells a b (choice_numbers c) c.part.now
chosen a b c p =
    let by : (f : Answer Which) → copy_found a b ≡ f → choice_numbers c ≡ choice_told f (same_bytes a b) = λ f e. p.numbers ∙ ap (λ (x : Answer Which). choice_told x (same_bytes a b)) e in
    let back : (f : Answer Which) → copy_found a b ≡ f → c.part.now ≡ part_of a b f = λ f e. p.part ∙ ap (part_of a b) e in
    let flag : (choice_numbers c).3 ≡ cond (same_bytes a b) 1 0 = ap (λ (x : ℕ × ℕ × ℕ × ℕ). x.3) p.numbers ∙ same_flag (copy_found a b) (same_bytes a b) in
    record {
      refused_told = λ n z e. (by (refused n z) e ∙ ap (λ (x : ℕ). (n, z, 0, x)) (sym flag), back (refused n z) e);
      first_told = λ e. (by (answered First) e ∙ ap (λ (x : ℕ). (0, 0, 1, x)) (sym flag), back (answered First) e);
      second_told = λ e. (by (answered Second) e ∙ ap (λ (x : ℕ). (0, 0, 2, x)) (sym flag), back (answered Second) e);
      equal_told = λ e. flag ∙ ap (λ (t : Bool). cond t 1 0) ((equal_exactly a b).1 e);
      unequal_told = λ n. flag ∙ by_test (same_bytes a b) (λ t. absurd (n ((equal_exactly a b).0 t))) (λ t. ap (λ (t : Bool). cond t 1 0) t);
    }
  where
    same_flag : (f : Answer Which) (e : Bool) → (choice_told f e).3 ≡ cond e 1 0
    same_flag (answered First) e = refl
    same_flag (answered Second) e = refl
    same_flag (refused n z) e = refl

drawn : (logsector capacity idlen : ℕ) (old : List ℕ) (r : Result (Unit {0}) Refusal) (after : List ℕ) → Formatting logsector capacity idlen old r after
    → FormatTells (format_found logsector capacity idlen (length old)) old r after
drawn logsector capacity idlen old r after p = record {
  refused_told = λ n z e. (p.numbers ∙ ap format_told e, p.bytes ∙ ap (buffer_after old) e);
  accepted_told = λ m e. (p.numbers ∙ ap format_told e, p.bytes ∙ ap (buffer_after old) e);
}

-- a length that is told is the one that was found
length_found_law : (found : Answer ℕ) (n : ℕ) → Ok n ≡ length_answer found → found ≡ answered n
length_found_law (refused k z) n e = absurd (let z : ◌≡◌ {A = ℕ} 0 1 = cc in omega arith)
length_found_law (answered k) n e = let same : n ≡ k = cc in ap answered (sym same)

length_drawn : (logsector capacity idlen n : ℕ) → TellsLength logsector capacity idlen (Ok n)
    → (old : List ℕ) → length old ≡ n → (s : Result (Unit {0}) Refusal) (after : List ℕ) → Formatting logsector capacity idlen old s after
    → (q : Result Geometry Refusal) → Checks after q → (format_numbers s ≡ (0, 0)) × (check_numbers q ≡ (0, 0))
length_drawn logsector capacity idlen n p old l s after f q c =
    let w = wanted logsector capacity idlen n (length_found_law (length_found logsector capacity idlen) n p.answer) in
    let d : format_found logsector capacity idlen (length old) ≡ answered w.0 = ap (format_found logsector capacity idlen) l ∙ w.1 in
    let t = (drawn logsector capacity idlen old s after f).accepted_told w.0 d in
    let ed = (formats logsector capacity idlen n w.0 w.1).in_order in
    (t.0, c.numbers ∙ ap check_told (ap map_read t.1 ∙ ed.accepted))

pub returns : goal.returns
returns c =
    record {
      checks = λ m r p. record { refused_told = λ n z e. p.numbers ∙ ap check_told e; accepted_told = λ ess e. p.numbers ∙ ap check_told e };
      lists = listed;
      reaches = λ m n position r p. record { refused_told = λ k z e. p.numbers ∙ ap address_told e; accepted_told = λ l e. p.numbers ∙ ap address_told e };
      sweeps = λ found first fill old r new p. record {
        refused_told = λ n z e. (p.numbers ∙ ap (sweep_told first (length old)) e, p.image ∙ ap (image_after first fill old) e);
        accepted_told = λ k e. (p.numbers ∙ ap (sweep_told first (length old)) e, p.image ∙ ap (image_after first fill old) e);
      };
      releases = released;
      places = λ m id list r after p. record {
        refused_told = λ n z e. (p.numbers ∙ ap place_told e, p.bytes ∙ ap (bytes_after m) e);
        accepted_told = λ k e. p.numbers ∙ ap place_told e;
      };
      claims = claimed;
      chooses = chosen;
      copies = λ source target r after p. record {
        refused_told = λ n z e. (p.numbers ∙ ap copy_told e, p.bytes ∙ ap (target_after target) e);
        accepted_told = λ bytes e. (p.numbers ∙ ap copy_told e, p.bytes ∙ ap (target_after target) e ∙ (table_answered (copy_by_table source target) e).value);
      };
      mends = λ m r after p. record {
        refused_told = λ n z e. (p.numbers ∙ ap mend_told e, p.bytes ∙ refused_stays m n z e);
        accepted_told = λ ess e. p.numbers ∙ ap mend_told e;
      };
      positions = changed;
      listed_changed = listed_changed;
      formats = drawn;
      lengths = λ logsector capacity idlen r p. record { refused_told = λ n z e. p.numbers ∙ ap length_told e; accepted_told = λ n e. p.numbers ∙ ap length_told e };
      length_drawn = length_drawn;
      locates = λ m r p. record { refused_told = λ n z e. p.numbers ∙ ap addresses_told e; accepted_told = λ l e. p.numbers ∙ ap addresses_told e };
      returned_placed = λ m ed id old r after new p qs e s end q.
          (let t = placed_back m ed id old r after new p qs e s end q in (q.numbers ∙ ap place_told t.0, t.1));
      claimed_released = released_back;
    }

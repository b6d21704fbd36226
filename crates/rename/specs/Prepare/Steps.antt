-- The steps of make_ready.
-- Relies on swing/specs/Spare (the marks show the free nodes) and rebuild's Rebuilt.
use Rattle.std.specs.Prelude.{ℕ, zero, suc, ◌+◌, ◌*◌, ◌-◌, ◌/◌, ◌<◌, ◌≤◌, ◌≡◌, refl, List, ◌∷◌, ◌++◌, Bool, true, false, ◌&&◌, length, take, drop, eqb, leb}
use Rattle.image.specs.Prelude.{sym, ap, ap₂, subst, ◌∙◌, false≢true, arith, get_or-take, length-take-le, take-append_seam, le-leb, lt-leb, leb-true, eqb-true, cases}
use Rattle.image.specs.Bytes.{u16}
use Rattle.image.specs.Image.{nodes_of, whole_nodes, header_of, tree_of}
use Rattle.image.specs.Sound.{is_in, numbers as nodes}
use Rattle.image.specs.Upkeep.{settled}
use Rattle.image.specs.Contract.{Bounded}
use Rattle.octets.specs.Order.{and_left, and_right, not_so}
use Rattle.laws.specs.Rising.{both}
use Rattle.node.specs.Whole.{Whole, whole_parts}
use Rattle.packed.specs.Form.Packed.{numbers_from}
use Rattle.packed.specs.Form.Tower.{from-length, from-once, from-range}
use Rattle.packed.specs.Build.Handed.{listed, handed_from, handed}
use Rattle.tree_check.specs.Whole.{Marks}
use Rattle.append.specs.Laws.Append.{header-levels}
use Rattle.rebuild.specs.Rebuild.{Rebuilt}
use Rattle.finish.specs.Finished.{cleared-size, cleared-later}
use Rattle.slice.specs.Moving.MoveImage.{Free}
use Rattle.slice.specs.Moving.FreeList.{free_from, free_list, list-supply, free-enough}
use Rattle.swing.specs.Spare.Spare.{unmarked, free-listed, free-count}
use Rattle.questions.specs.Acted.{Passed}
use Rattle.rename.specs.Prepare.Prepared.{may_swing, Prepared}

-- THE TEST
pub swing-waits : (quiet : Bool) (levels free : ℕ) → quiet ≡ false → false ≡ may_swing quiet levels free
unfolding may_swing
swing-waits quiet levels free e = rw e

pub swing-high : (quiet : Bool) (levels free : ℕ) → quiet ≡ true → 7 < levels → false ≡ may_swing quiet levels free
unfolding may_swing
swing-high quiet levels free e h = rw (e, lt-leb levels 7 h)

pub swing-room : (quiet : Bool) (levels free : ℕ) → quiet ≡ true → levels ≤ 7 → leb (10 * levels + 1) free ≡ may_swing quiet levels free
unfolding may_swing
swing-room quiet levels free e h = rw (e, le-leb levels 7 h)

-- THE NUMBERS
pub node-few : (s : List ℕ) → whole_nodes (length s) ≡ true → (1024 ≤ length s) × (1 ≤ length s / 1024) × (length s / 1024 ≤ 1024) × (nodes_of (length s) ≡ length s / 1024)
unfolding nodes_of
node-few s e = let p : Whole (length s) = whole_parts (length s) e in (omega (arith, p.filled, p.enough), omega (arith, p.enough), p.few, refl)

-- a list of free nodes is shorter than the nodes
free-length : (c i : ℕ) (is : List ℕ) → length (free_from c i is) ≤ c
unfolding free_from
free-length zero i is = omega arith
free-length (suc c) i is =
    cases (is_in i is) (λ q. rw q (omega (arith, free-length c (suc i) is))) (λ q. rw q (omega (arith, free-length c (suc i) is)))

pub listed-take : (k m : ℕ) (xs : List ℕ) (i : ℕ) → i + k ≤ m → listed k (take m xs) i ≡ listed k xs i
unfolding listed
listed-take zero m xs i h = refl
listed-take (suc k) m xs i h = ap₂ (λ a l. a ∷ l) (get_or-take m xs i 0 (omega arith)) (listed-take k m xs (suc i) (omega arith))

listed-front : (k : ℕ) (xs ys : List ℕ) (i : ℕ) → i + k ≤ length xs → listed k (xs ++ ys) i ≡ listed k xs i
listed-front k xs ys i h = sym (listed-take k (length xs) (xs ++ ys) i h) ∙ ap (λ l. listed k l i) (take-append_seam xs ys)

-- numbers written into the front of a list are listed there
pub listed-upper : (n r : ℕ) (numbers part : List ℕ) → r ≡ n - n / 4 → r ≤ length numbers → length part ≡ length (take r numbers)
    → handed part ≡ numbers_from (n / 4) (length (take r numbers)) → listed r (part ++ drop r numbers) 0 ≡ numbers_from (n / 4) (n - n / 4)
unfolding handed handed_from
listed-upper n r numbers part q room long h =
    let l : length (take r numbers) ≡ r = length-take-le r numbers room in
    let many : length part - 0 ≡ r = omega arith in
    let few : length (take r numbers) ≡ n - n / 4 = omega arith in
    listed-front r part (drop r numbers) 0 (omega arith)
    ∙ sym (ap (λ k. listed k part 0) many)
    ∙ h
    ∙ ap (numbers_from (n / 4)) few

-- the upper nodes are a supply after a rebuild
upper_in : (j i k : ℕ) → is_in j (numbers_from i k) ≡ true → i ≤ j
unfolding is_in numbers_from
upper_in j i zero e = absurd (false≢true e)
upper_in j i (suc k) e =
    cases (eqb j i) (λ q. let z : j ≡ i = eqb-true j i q in omega arith)
    (λ q. let f : is_in j (numbers_from (suc i) k) ≡ true = rw q at e in let g = upper_in j (suc i) k f in omega arith)

upper-supply : (s s' w w' : List ℕ) → whole_nodes (length s) ≡ true → Rebuilt s s' w w' → Free s' (numbers_from (nodes_of (length s) / 4) (nodes_of (length s) - nodes_of (length s) / 4))
upper-supply s s' w w' whole b =
    let k = (whole_parts (length s) whole).enough in
    let z : nodes_of (length s') ≡ nodes_of (length s) = ap nodes_of b.size in
    record {
      enough = let l = from-length (nodes_of (length s) / 4) (nodes_of (length s) - nodes_of (length s) / 4) in let r = b.roomy in omega arith;
      distinct = from-once (nodes_of (length s) / 4) (nodes_of (length s) - nodes_of (length s) / 4);
      within = from-range (nodes_of (length s) / 4) (nodes_of (length s) - nodes_of (length s) / 4) (nodes_of (length s')) (omega arith) (omega arith);
      unused = λ j e. b.unused j (upper_in j (nodes_of (length s) / 4) (nodes_of (length s) - nodes_of (length s) / 4) e);
    }

-- THE WAYS OUT
module _ (s w seen numbers : List ℕ) (quiet : Bool) (f : Passed s w) (marks : Marks s seen) (Quiet-is : quiet ≡ settled s) (n r levels : ℕ) (n-is : n ≡ length s / 1024)
    (l : listed r numbers 0 ≡ unmarked (n - 1) 1 seen) (levels-is : levels ≡ u16 s 8) (x : Bool) (x-is : x ≡ may_swing quiet levels r) where
  free-are : listed r numbers 0 ≡ free_list s
  free-are = let k = node-few s f.whole in free-listed s seen numbers n r marks (n-is ∙ sym k.3) (omega (arith, k.1)) l

  levels-are : (header_of s).levels ≡ levels
  levels-are = header-levels s ∙ sym levels-is

  pub ready-now : x ≡ true → Prepared s s w w numbers r
  unfolding may_swing
  ready-now e =
      let a : quiet && (leb levels 7 && leb (10 * levels + 1) r) ≡ true = sym x-is ∙ e in
      let b : leb levels 7 && leb (10 * levels + 1) r ≡ true = and_right quiet _ a in
      let low : levels ≤ 7 = leb-true levels 7 (and_left _ _ b) in
      let many : 10 * levels + 1 ≤ r = leb-true (10 * levels + 1) r (and_right (leb levels 7) _ b) in
      let z = levels-are in
      let c = free-count s numbers r free-are in
      record {
        size = refl;
        is_sound = f.is_sound;
        is_settled = sym Quiet-is ∙ and_left quiet _ a;
        table = refl;
        low = omega arith;
        few_listed =
            let k = node-few s f.whole in
            let q : length (free_list s) ≤ nodes_of (length s) - 1 = unfold free_list in free-length (nodes_of (length s) - 1) 1 (nodes (tree_of s)) in
            omega (arith, k.2, k.3);
        supply = subst (Free s) (sym free-are) (list-supply s (omega arith));
        kept = λ h. refl;
        work_size = refl;
        work_later = refl;
      }

  -- a store of the bound is never rebuilt
  swings : Bounded s → x ≡ true
  unfolding may_swing
  swings h =
      let z = levels-are in
      let c = free-count s numbers r free-are in
      let d = free-enough s in
      let m = h.low in
      let n = h.free in
      x-is ∙ both (Quiet-is ∙ h.is_settled) (both (le-leb levels 7 (omega arith)) (le-leb (10 * levels + 1) r (omega arith)))

  pub ready-rebuilt : (s' w' numbers' : List ℕ) (r' : ℕ) → x ≡ false → Rebuilt s s' w w' → r' ≡ length s' / 1024 - length s' / 1024 / 4
      → listed r' numbers' 0 ≡ numbers_from (length s' / 1024 / 4) (length s' / 1024 - length s' / 1024 / 4) → Prepared s s' w w' numbers' r'
  unfolding nodes_of
  ready-rebuilt s' w' numbers' r' e b q l' =
      let z : length s' / 1024 ≡ length s / 1024 = ap (λ n. n / 1024) b.size in
      record {
        size = b.size;
        is_sound = b.is_sound;
        is_settled = b.is_settled;
        table = b.table;
        low = let z = b.levels in omega arith;
        few_listed = let k = node-few s f.whole in omega (arith, k.2);
        supply = subst (Free s') (sym (l' ∙ ap (λ n. numbers_from (n / 4) (n - n / 4)) z)) (upper-supply s s' w w' f.whole b);
        kept = λ h. not_so (swings h) e;
        work_size = cleared-size (nodes_of (length s)) w w' b.work f.long;
        work_later = cleared-later (nodes_of (length s)) w w' b.work;
      }

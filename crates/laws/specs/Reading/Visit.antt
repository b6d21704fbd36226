-- The check as one walk that marks the nodes it reaches: what the code of check does, and that it is soundness with every node in range and reached
-- once.
use Rattle.std.specs.Prelude.{ℕ, zero, suc, ◌<◌, ◌≤◌, ◌≡◌, refl, List, [], ◌∷◌, ◌++◌, Bool, true, false, ◌&&◌, not, cond, length, drop, get_or, set, replicate, ltb, leb, eqb}
use Rattle.image.specs.Prelude.{sym, ap, ap₂, ◌∙◌, and-true, Option, none, some, arith, length-set, length-replicate, get_or-set_same, get_or-set_other, eqb-true, eqb-false, ltb-true}
use Rattle.image.specs.Bytes.{before, shared}
use Rattle.image.specs.Path.{owns}
use Rattle.image.specs.Table.{Row}
use Rattle.image.specs.Image.{Tree, unread, leaf, interior, Forest, end, tree}
use Rattle.image.specs.Meaning.{high_of}
use Rattle.image.specs.Sound.{first_pivot, numbers, numbers_in, is_in, once, in_range, sound_tree}
use Rattle.laws.specs.Reading.Relative.{lifts}
use Rattle.path.specs.Shape.{Shape, fresh, feed}
use Rattle.laws.specs.Reading.SoundHere.{sound_here, sound_branches, messages_here, sound-root}
use Rattle.octets.specs.Order.{and_assoc, and-false}

-- one byte a node: 0 where it is not yet reached
unfoldable pub mark : List ℕ → ℕ → List ℕ
mark seen i = set seen i 1

unfoldable pub unmet : ℕ → List ℕ → ℕ → Bool
unmet n seen i = leb 1 i && ltb i n && eqb (get_or seen i 0) 0

unfoldable pub all_unmet : ℕ → List ℕ → List ℕ → Bool
all_unmet n seen [] = true
all_unmet n seen (i ∷ is) = unmet n seen i && all_unmet n (mark seen i) is

unfoldable pub mark_all : List ℕ → List ℕ → List ℕ
mark_all seen [] = seen
mark_all seen (i ∷ is) = mark_all (mark seen i) is

unfoldable pub onward : Option (List ℕ) → (List ℕ → Option (List ℕ)) → Option (List ℕ)
onward none more = none
onward (some seen) more = more seen

-- The walk: nothing where the tree is not sound, else the marks after it.
unfoldable mutual
  pub visit : Tree → ℕ → Shape → List ℕ → List ℕ → List ℕ → Option (List ℕ)
  visit (unread i) n sh lo hi seen = none
  visit (leaf i rs) n sh lo hi seen = cond (unmet n seen i) (cond (sound_here (leaf i rs) sh lo hi) (some (mark seen i)) none) none
  visit (interior i f ms) n sh lo hi seen =
      cond (unmet n seen i && first_pivot [] lo f) (onward (visit_branches f n sh lo hi (mark seen i)) (λ after. cond (messages_here sh lo hi ms) (some after) none)) none

  pub visit_branches : Forest → ℕ → Shape → List ℕ → List ℕ → List ℕ → Option (List ℕ)
  visit_branches end n sh lo hi seen = some seen
  visit_branches (tree s t f) n sh lo hi seen =
      cond (owns lo hi s && before s (high_of [] hi f))
      (onward (visit t n (feed sh (shared s (high_of [] hi f))) (drop (lifts s (high_of [] hi f)) s) (drop (lifts s (high_of [] hi f)) (high_of [] hi f)) seen)
      (λ after. visit_branches f n sh lo hi after))
      none

unmet-append : (n : ℕ) (seen a b : List ℕ) → all_unmet n seen (a ++ b) ≡ all_unmet n seen a && all_unmet n (mark_all seen a) b
unfolding all_unmet mark_all
unmet-append n seen [] b = refl
unmet-append n seen (i ∷ a) b = ap (λ z. unmet n seen i && z) (unmet-append n (mark seen i) a b) ∙ sym (and_assoc (unmet n seen i) (all_unmet n (mark seen i) a) (all_unmet n (mark_all (mark seen i) a) b))

pub mark-append : (seen a b : List ℕ) → mark_all seen (a ++ b) ≡ mark_all (mark_all seen a) b
unfolding mark_all
mark-append seen [] b = refl
mark-append seen (i ∷ a) b = mark-append (mark seen i) a b

node-both : (o a k m F : Bool) (S : List ℕ) → cond (o && a) (onward (cond (k && F) (some S) none) (λ after. cond m (some after) none)) none ≡ cond (a && k && m && (o && F)) (some S) none
unfolding onward
node-both true true true true true S = refl
node-both true true true true false S = refl
node-both true true true false true S = refl
node-both true true true false false S = refl
node-both true true false m F S = refl
node-both true false k m F S = refl
node-both false true true true F S = refl
node-both false true true false F S = refl
node-both false true false m F S = refl
node-both false false k m F S = refl

leaf-both : (o g : Bool) (S : List ℕ) → cond o (cond g (some S) none) none ≡ cond (g && (o && true)) (some S) none
leaf-both true true S = refl
leaf-both true false S = refl
leaf-both false true S = refl
leaf-both false false S = refl

branch-both : (w b g F : Bool) (S : List ℕ) (more : List ℕ → Option (List ℕ)) (k G : Bool) (T : List ℕ) → more S ≡ cond (k && G) (some T) none
    → cond (w && b) (onward (cond (g && F) (some S) none) more) none ≡ cond (w && b && g && k && (F && G)) (some T) none
unfolding onward
branch-both true true true true S more true G T e = e
branch-both true true true true S more false G T e = e
branch-both true true true false S more true G T e = refl
branch-both true true true false S more false G T e = refl
branch-both true true false F S more k G T e = refl
branch-both true false g F S more k G T e = refl
branch-both false b g F S more k G T e = refl

leaf-visit : (i : ℕ) (rs : List Row) (n : ℕ) (sh : Shape) (lo hi seen : List ℕ)
    → cond (unmet n seen i) (cond (sound_here (leaf i rs) sh lo hi) (some (mark seen i)) none) none
    ≡ cond (sound_here (leaf i rs) sh lo hi && all_unmet n seen (i ∷ [])) (some (mark_all seen (i ∷ []))) none
unfolding all_unmet mark_all
leaf-visit i rs n sh lo hi seen = leaf-both (unmet n seen i) (sound_here (leaf i rs) sh lo hi) (mark seen i)

end-visit : (n : ℕ) (seen : List ℕ) → some seen ≡ cond (true && all_unmet n seen []) (some (mark_all seen [])) none
unfolding all_unmet mark_all
end-visit n seen = refl

first-unmet : (n i : ℕ) (seen is : List ℕ) → all_unmet n seen (i ∷ is) ≡ unmet n seen i && all_unmet n (mark seen i) is
unfolding all_unmet
first-unmet n i seen is = refl

first_marked : (i : ℕ) (seen is : List ℕ) → mark_all seen (i ∷ is) ≡ mark_all (mark seen i) is
unfolding mark_all
first_marked i seen is = refl

mutual
  unfolding visit visit_branches numbers numbers_in sound_here sound_branches

  pub visit-is : (t : Tree) (n : ℕ) (sh : Shape) (lo hi seen : List ℕ)
      → visit t n sh lo hi seen ≡ cond (sound_here t sh lo hi && all_unmet n seen (numbers t)) (some (mark_all seen (numbers t))) none
  visit-is (unread i) n sh lo hi seen = refl
  visit-is (leaf i rs) n sh lo hi seen = leaf-visit i rs n sh lo hi seen
  visit-is (interior i f ms) n sh lo hi seen =
      ap (λ z. cond (unmet n seen i && first_pivot [] lo f) (onward z (λ after. cond (messages_here sh lo hi ms) (some after) none)) none) (visit-branches f n sh lo hi (mark seen i))
      ∙ node-both (unmet n seen i) (first_pivot [] lo f) (sound_branches f sh lo hi) (messages_here sh lo hi ms) (all_unmet n (mark seen i) (numbers_in f)) (mark_all (mark seen i) (numbers_in f))
      ∙ ap₂ (λ u S. cond (first_pivot [] lo f && sound_branches f sh lo hi && messages_here sh lo hi ms && u) (some S) none) (sym (first-unmet n i seen (numbers_in f))) (sym (first_marked i seen (numbers_in f)))

  pub visit-branches : (f : Forest) (n : ℕ) (sh : Shape) (lo hi seen : List ℕ)
      → visit_branches f n sh lo hi seen ≡ cond (sound_branches f sh lo hi && all_unmet n seen (numbers_in f)) (some (mark_all seen (numbers_in f))) none
  visit-branches end n sh lo hi seen = end-visit n seen
  visit-branches (tree s t f) n sh lo hi seen =
      ap (λ z. cond (owns lo hi s && before s (high_of [] hi f)) (onward z (λ after. visit_branches f n sh lo hi after)) none)
      (visit-is t n (feed sh (shared s (high_of [] hi f))) (drop (lifts s (high_of [] hi f)) s) (drop (lifts s (high_of [] hi f)) (high_of [] hi f)) seen)
      ∙ branch-both (owns lo hi s) (before s (high_of [] hi f))
      (sound_here t (feed sh (shared s (high_of [] hi f))) (drop (lifts s (high_of [] hi f)) s) (drop (lifts s (high_of [] hi f)) (high_of [] hi f)))
      (all_unmet n seen (numbers t)) (mark_all seen (numbers t)) (λ after. visit_branches f n sh lo hi after)
      (sound_branches f sh lo hi) (all_unmet n (mark_all seen (numbers t)) (numbers_in f)) (mark_all (mark_all seen (numbers t)) (numbers_in f))
      (visit-branches f n sh lo hi (mark_all seen (numbers t)))
      ∙ ap₂ (λ u S. cond (owns lo hi s && before s (high_of [] hi f)
      && sound_here t (feed sh (shared s (high_of [] hi f))) (drop (lifts s (high_of [] hi f)) s) (drop (lifts s (high_of [] hi f)) (high_of [] hi f)) && sound_branches f sh lo hi && u) (some S) none)
      (sym (unmet-append n seen (numbers t) (numbers_in f))) (sym (mark-append seen (numbers t) (numbers_in f)))

-- With no mark set at the start: every node is in range and is reached once.
unfoldable pub clean : List ℕ → List ℕ → Bool
clean seen [] = true
clean seen (i ∷ is) = eqb (get_or seen i 0) 0 && clean seen is

-- after a mark: those that are not the marked one
clean-mark : (seen : List ℕ) (i : ℕ) → i < length seen → (is : List ℕ) → clean (mark seen i) is ≡ not (is_in i is) && clean seen is
unfolding clean is_in mark
clean-mark seen i l [] = refl
clean-mark seen i l (j ∷ is) = go (eqb i j) refl (clean-mark seen i l is)
  where
    go : (x : Bool) → eqb i j ≡ x → clean (mark seen i) is ≡ not (is_in i is) && clean seen is → clean (mark seen i) (j ∷ is) ≡ not (is_in i (j ∷ is)) && clean seen (j ∷ is)
    go true e ih =
        let q : i ≡ j = eqb-true i j e in
        let g : get_or (set seen i 1) j 0 ≡ 1 = ap (λ k. get_or (set seen i 1) k 0) (sym q) ∙ get_or-set_same seen i 1 0 l in
        rw (e, g)
    go false e ih =
        let g : get_or (set seen i 1) j 0 ≡ get_or seen j 0 = get_or-set_other seen i j 1 0 (λ q. eqb-false i j e (sym q)) in
        rw (e, g) (ap (λ z. eqb (get_or seen j 0) 0 && z) ih ∙ turn (eqb (get_or seen j 0) 0) (not (is_in i is)) (clean seen is))
      where
        turn : (a b c : Bool) → a && (b && c) ≡ b && (a && c)
        turn true true c = refl
        turn true false c = refl
        turn false true c = refl
        turn false false c = refl

mark-length : (seen : List ℕ) (i : ℕ) → length (mark seen i) ≡ length seen
unfolding mark
mark-length seen i = length-set seen i 1

gather : (r f R O N E : Bool) → r && f && (R && O && (N && E)) ≡ r && R && (N && O) && (f && E)
gather true true true true N E = cut N E
  where
    cut : (a b : Bool) → a && b ≡ a && true && b
    cut true b = refl
    cut false b = refl
gather true true true false true E = refl
gather true true true false false E = refl
gather true true false O N E = refl
gather true false true O true E = sym (and-false O)
gather true false true O false E = refl
gather true false false O N E = refl
gather false f R O N E = refl

pub unmet-once : (n : ℕ) (seen : List ℕ) → n ≤ length seen → (is : List ℕ) → all_unmet n seen is ≡ in_range n is && once is && clean seen is
unfolding all_unmet in_range once clean
unmet-once n seen h [] = refl
unmet-once n seen h (i ∷ is) = go (ltb i n) refl (unmet-once n (mark seen i) (rw (mark-length seen i) h) is)
  where
    out : (a : Bool) (F Z R N C : Bool) → a && false && F && Z ≡ a && false && R && N && C
    out true F Z R N C = refl
    out false F Z R N C = refl

    go : (x : Bool) → ltb i n ≡ x → all_unmet n (mark seen i) is ≡ in_range n is && once is && clean (mark seen i) is
        → all_unmet n seen (i ∷ is) ≡ in_range n (i ∷ is) && once (i ∷ is) && clean seen (i ∷ is)
    go true e ih =
        let l : i < n = ltb-true i n e in
        unfold unmet in rw (e, ih, clean-mark seen i (omega arith) is)
        (gather (leb 1 i && true) (eqb (get_or seen i 0) 0) (in_range n is) (once is) (not (is_in i is)) (clean seen is))
    go false e ih =
        unfold unmet in rw e (out (leb 1 i) (eqb (get_or seen i 0) 0) (all_unmet n (mark seen i) is) (in_range n is) (not (is_in i is) && once is) (eqb (get_or seen i 0) 0 && clean seen is))

-- a byte for each of m nodes, none marked
abbrev pub blank : ℕ → List ℕ
blank m = replicate m 0

pub zero-at : (m i : ℕ) → get_or (blank m) i 0 ≡ 0
zero-at zero i = refl
zero-at (suc m) zero = refl
zero-at (suc m) (suc i) = zero-at m i

clean-zeros : (m : ℕ) (is : List ℕ) → clean (blank m) is ≡ true
unfolding clean
clean-zeros m [] = refl
clean-zeros m (i ∷ is) = rw (zero-at m i) (clean-zeros m is)

-- The check from the root with no mark set: the three rules that `sound_root` has of the tree.
pub visit-root : (t : Tree) (n m : ℕ) (hi : List ℕ) → n ≤ m
    → visit t n fresh [] hi (blank m) ≡ cond (sound_tree t [] hi && (in_range n (numbers t) && once (numbers t))) (some (mark_all (blank m) (numbers t))) none
visit-root t n m hi h =
    let l : length (blank m) ≡ m = length-replicate {A = ℕ} m 0 in
    let u : all_unmet n (blank m) (numbers t) ≡ in_range n (numbers t) && once (numbers t)
    = unmet-once n (blank m) (omega arith) (numbers t) ∙ ap (λ z. in_range n (numbers t) && once (numbers t) && z) (clean-zeros m (numbers t)) ∙ and-true (in_range n (numbers t) && once (numbers t)) in
    visit-is t n fresh [] hi (blank m)
    ∙ ap₂ (λ a b. cond (a && b) (some (mark_all (blank m) (numbers t))) none) (sym (sound-root t hi)) u

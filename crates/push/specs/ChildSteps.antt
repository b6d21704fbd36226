-- Step lemmas of the loop over the children: the child in hand takes its messages, and those that follow have room still.
-- Relies on Laws/Only and LeafRoom.
use Rattle.std.specs.Prelude.{ℕ, ◌≡◌, List, [], ◌∷◌, true}
use Rattle.image.specs.Prelude.{sym, ap, ◌∙◌}
use Rattle.image.specs.Entry.{Entry}
use Rattle.image.specs.Image.{Branch}
use Rattle.image.specs.Sound.{once}
use Rattle.laws.specs.Reading.Relative.{branch_high}
use Rattle.node.specs.Search.Own.{branch}
use Rattle.push.specs.Laws.Written.{child_takes, each_takes, has_room, all_have_room, branch_numbers}
use Rattle.push.specs.Laws.Only.{room-first, once-first}
use Rattle.push.specs.Laws.LeafRoom as laws

-- ks are left, and hi is the high pivot of the last
module _ (es : List Entry) (hi s : List ℕ) (ks : List Branch) where
  pub takes_none : (result : List ℕ) → ks ≡ [] → each_takes (child_takes es) ks hi s ≡ result → s ≡ result
  unfolding each_takes
  takes_none result e inv = ap (λ l. each_takes (child_takes es) l hi s) (sym e) ∙ inv

  module _ (i : ℕ) (lo h : List ℕ) (us : List Branch) (e : ks ≡ branch i lo ∷ us) (g : h ≡ branch_high hi us) where
    all_room : all_have_room es ks hi s ≡ true → all_have_room es (branch i lo ∷ us) hi s ≡ true
    all_room r = ap (λ l. all_have_room es l hi s) (sym e) ∙ r

    apart : once (branch_numbers ks) ≡ true → once (branch_numbers (branch i lo ∷ us)) ≡ true
    apart o = ap (λ l. once (branch_numbers l)) (sym e) ∙ o

    pub child-room : all_have_room es ks hi s ≡ true → has_room es i lo h s ≡ true
    child-room r = ap (λ x. has_room es i lo x s) g ∙ room-first es (branch i lo) us hi s (all_room r)

    pub later-once : once (branch_numbers ks) ≡ true → once (branch_numbers us) ≡ true
    later-once o = (once-first (branch i lo) us (apart o)).1

    module _ (s' : List ℕ) (q : s' ≡ child_takes es i lo h s) where
      taken : s' ≡ child_takes es i lo (branch_high hi us) s
      taken = q ∙ ap (λ x. child_takes es i lo x s) g

      pub later-room : once (branch_numbers ks) ≡ true → all_have_room es ks hi s ≡ true → all_have_room es us hi s' ≡ true
      later-room o r = ap (all_have_room es us hi) taken ∙ laws.rooms-on es (branch i lo) us hi s (apart o) (all_room r)

      pub takes_on : (result : List ℕ) → each_takes (child_takes es) ks hi s ≡ result → each_takes (child_takes es) us hi s' ≡ result
      unfolding each_takes
      takes_on result inv = ap (each_takes (child_takes es) us hi) taken ∙ ap (λ l. each_takes (child_takes es) l hi s) (sym e) ∙ inv

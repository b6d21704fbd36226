-- Step lemmas of the writers: entries put into a page one after the other, and a page written as a node.
-- Relies on octets' `put` and its laws, and on Laws/Written.
use Rattle.std.specs.Prelude.{ℕ, ◌+◌, ◌*◌, ◌<◌, ◌≤◌, ◌≡◌, List, [], ◌∷◌, ◌++◌, true, length, ltb}
use Rattle.image.specs.Prelude.{sym, ap, ap₂, ◌∙◌, append_assoc, append-nil, arith, length-append, ltb-true}
use Rattle.image.specs.Bytes.{u16}
use Rattle.image.specs.Entry as defined
use Rattle.octets.specs.Put.{put, put-put, put-nil}
use Rattle.laws.specs.Encode.{bytes_of, child-size}
use Rattle.image.specs.Image.{Branch}
use Rattle.octets.specs.Order.{and_left, and_right}
use Rattle.laws.specs.WriteNode.{write_node}
use Rattle.laws.specs.Page.{page}
use Rattle.node.specs.Search.Own.{branch}
use Rattle.push.specs.Laws.Arriving.{brought, brought_all}
use Rattle.push.specs.Laws.Written.{body_of, lengthened, interior_takes, has_room, child_bytes, small_numbers}
use Rattle.push.specs.Laws.Only.{body-fits}

-- ENTRIES ONE BEHIND THE OTHER ON A PAGE: it shows `now`, and `rest` is left of what shall be all
module _ (now all rest one more : List ℕ) (split : rest ≡ one ++ more) (inv : now ++ rest ≡ all) where
  parted : now ++ (one ++ more) ≡ all
  parted = ap (λ l. now ++ l) (sym split) ∙ inv

  pub page-fits : (b : List ℕ) → one ≡ b → length all ≤ 1016 → length now + length b ≤ 1016
  page-fits b e h = let a = ap length parted in let f = length-append now (one ++ more) in let g = length-append one more in let z = ap length e in omega arith

  pub page-on : (b now' : List ℕ) → one ≡ b → now' ≡ now ++ b → now' ++ more ≡ all
  page-on b now' e h = ap (λ l. l ++ more) (h ∙ ap (λ l. now ++ l) (sym e)) ∙ append_assoc now one more ∙ parted

  pub page-skips : one ≡ [] → now ++ more ≡ all
  page-skips h = ap (λ l. now ++ (l ++ more)) (sym h) ∙ parted

pub page-stays : (now all rest more : List ℕ) → rest ≡ more → now ++ rest ≡ all → now ++ more ≡ all
page-stays now all rest more e inv = ap (λ l. now ++ l) (sym e) ∙ inv

pub whole-fits : (old new : List ℕ) → length old + length new ≤ 1016 → length (old ++ new) ≤ 1016
whole-fits old new h = let a = length-append old new in omega arith

pub page-ends : (now all rest : List ℕ) → rest ≡ [] → now ++ rest ≡ all → now ≡ all
page-ends now all rest e inv = sym (append-nil now) ∙ ap (λ l. now ++ l) (sym e) ∙ inv

-- WHAT IS PUT, AND ITS LENGTH, UNDER ANOTHER NAME
module _ (page now : List ℕ) (at r n : ℕ) (a b : List ℕ) (e : a ≡ b) where
  pub puts-as : now ≡ put page at a → now ≡ put page at b
  puts-as h = h ∙ ap (put page at) e

  pub ends_as : r ≡ at + n → n ≡ length a → r ≡ at + length b
  ends_as h g = h ∙ ap (λ z. at + z) (g ∙ ap length e)

  pub fits-as : at + length b ≤ length page → n ≡ length a → at + n ≤ length page
  fits-as h g = let z = ap length e in omega arith

pub puts-nothing : (page : List ℕ) (at : ℕ) (b : List ℕ) → b ≡ [] → page ≡ put page at b
puts-nothing page at b e = sym (put-nil page at) ∙ ap (put page at) (sym e)

pub ends_nowhere : (at : ℕ) (b : List ℕ) → b ≡ [] → at ≡ at + length b
ends_nowhere at b e = let z = ap length e in omega arith

-- ENTRIES ONE AFTER THE OTHER: `rest` is left of what was put from `at` on
module _ (page now now' : List ℕ) (at to r : ℕ) (all rest one more : List ℕ) (split : rest ≡ one ++ more) where
  pub line-fits : to + length rest ≡ at + length all → at + length all ≤ length page → length now ≡ length page → to + length one ≤ length now
  line-fits e h g = let a = ap length split in let b = length-append one more in omega arith

  pub line-length : to + length rest ≡ at + length all → r ≡ to + length one → r + length more ≡ at + length all
  line-length e h = let a = ap length split in let b = length-append one more in omega arith

  pub line_on : to + length rest ≡ at + length all → at + length all ≤ length page → length now ≡ length page → r ≡ to + length one
      → now' ≡ put now to one → put now to rest ≡ put page at all → put now' r more ≡ put page at all
  line_on e h g f q inv =
      let a = ap length split in
      let b = length-append one more in
      ap₂ (λ x y. put x y more) q f ∙ put-put now to one more (omega arith) ∙ ap (put now to) (sym split) ∙ inv

pub line-end : (page now : List ℕ) (at to : ℕ) (all rest : List ℕ) → rest ≡ [] → put now to rest ≡ put page at all → now ≡ put page at all
line-end page now at to all rest e inv = sym (put-nil now to) ∙ ap (put now to) (sym e) ∙ inv

pub line-ends : (at to : ℕ) (all rest : List ℕ) → rest ≡ [] → to + length rest ≡ at + length all → to ≡ at + length all
line-ends at to all rest e inv = let a = ap length e in omega arith

-- the entries that are left, one off
pub brought-cons : (lo hi : List ℕ) (es ts : List defined.Entry) (e : defined.Entry) → es ≡ e ∷ ts → brought_all es lo hi ≡ brought e lo hi ++ brought_all ts lo hi
unfolding brought_all
brought-cons lo hi es ts e q = ap (λ l. brought_all l lo hi) q

pub brought-none : (lo hi : List ℕ) (es : List defined.Entry) → es ≡ [] → brought_all es lo hi ≡ []
unfolding brought_all
brought-none lo hi es q = ap (λ l. brought_all l lo hi) q

-- THE ENTRIES OF CHILDREN
pub children-cons : (ks us : List Branch) (k : Branch) → ks ≡ k ∷ us → child_bytes ks ≡ bytes_of (defined.child k.number k.pivot) ++ child_bytes us
unfolding child_bytes
children-cons ks us k q = ap child_bytes q

pub children-none : (ks : List Branch) → ks ≡ [] → child_bytes ks ≡ []
unfolding child_bytes
children-none ks q = ap child_bytes q

pub small-first : (ks us : List Branch) (k : Branch) → ks ≡ k ∷ us → small_numbers ks ≡ true → k.number < 65536
unfolding small_numbers
small-first ks us k q e = ltb-true k.number 65536 (and_left _ _ (ap small_numbers (sym q) ∙ e))

pub small-later : (ks us : List Branch) (k : Branch) → ks ≡ k ∷ us → small_numbers ks ≡ true → small_numbers us ≡ true
unfolding small_numbers
small-later ks us k q e = and_right (ltb k.number 65536) _ (ap small_numbers (sym q) ∙ e)

pub as-child : (i : ℕ) (s : List ℕ) (to r : ℕ) → r ≡ to + (6 + length s) → r ≡ to + length (bytes_of (defined.child i s))
as-child i s to r e = let z = child-size i s in omega arith

-- the children left, one off
module _ (ks us : List Branch) (i : ℕ) (lo : List ℕ) (e : ks ≡ branch i lo ∷ us) where
  pub child-off : child_bytes ks ≡ bytes_of (defined.child i lo) ++ child_bytes us
  child-off = children-cons ks us (branch i lo) e

  pub child-small : small_numbers ks ≡ true → i < 65536
  child-small h = small-first ks us (branch i lo) e h

  pub children-small : small_numbers ks ≡ true → small_numbers us ≡ true
  children-small h = small-later ks us (branch i lo) e h

-- AN INTERIOR CHILD, WRITTEN
pub body-short : (es : List defined.Entry) (i : ℕ) (lo hi s body : List ℕ) → has_room es i lo hi s ≡ true → body ≡ body_of s i → length body ≤ 1016
body-short es i lo hi s body r b =
    let f = body-fits es i lo hi s r in let z = length-append (body_of s i) (brought_all es lo hi) in let w = ap length b in omega arith

pub interior-written : (es : List defined.Entry) (i : ℕ) (lo hi s : List ℕ) (level : ℕ) (p s' : List ℕ) → level ≡ u16 s (i * 1024 + 4) → p ≡ body_of s i ++ brought_all es lo hi
    → s' ≡ write_node s i (page 2 level p) → s' ≡ interior_takes es i lo hi s
unfolding interior_takes lengthened
interior-written es i lo hi s level p s' ev q w = w ∙ ap₂ (λ v l. write_node s i (page 2 v l)) ev q

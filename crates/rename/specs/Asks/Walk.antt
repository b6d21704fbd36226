-- The steps of the questions as code.
-- Relies on Below, Judge and Shorter.
use Rattle.std.specs.Prelude.{ℕ, ◌<◌, ◌≤◌, ◌≡◌, refl, List, [], Bool, true, false, not, length, drop, leb, ltb}
use Rattle.std.specs.Prelude as found
use Rattle.image.specs.Prelude.{sym, ap, ap₂, ◌∙◌, le-leb, lt-leb}
use Rattle.image.specs.Bytes.{same, begins}
use Rattle.image.specs.Path.{well_formed, proper_beginning, may_move}
use Rattle.image.specs.Table.{Row, rows_below, least_after, moved, every_key, rising}
use Rattle.image.specs.Calls.{is_empty}
use Rattle.image.specs.Sound.{sound, table_of}
use Rattle.laws.specs.Filter.{keep, keep-passes, keep-rises}
use Rattle.laws.specs.Follow.{table-rises}
use Rattle.path.specs.Shape as defined
use Rattle.path.specs.Fed.{Shape, shape_is}
use Rattle.node.specs.Fitted.{buffer_is}
use Rattle.laws.specs.Formed.{table-formed}
use Rattle.rename.specs.Asks.Judge.{rest_fits, rests_fit, nine-is}
use Rattle.rename.specs.Asks.Shorter.{no_wider, quick-yes}
use Rattle.successor.specs.Walk.{unfit}
use Rattle.rename.specs.Asks.Below.{none_below, some_below, none-fails}

-- QUESTION 7
pub not-begins : (p q : List ℕ) (x : Bool) → x ≡ begins p q → x ≡ false → false ≡ proper_beginning p q
unfolding proper_beginning
not-begins p q x e f = rw (sym e ∙ f)

pub begins-or-same : (p q : List ℕ) (x y : Bool) → x ≡ begins p q → x ≡ true → y ≡ same p q → not y ≡ proper_beginning p q
unfolding proper_beginning
begins-or-same p q x y e f g = rw (sym e ∙ f) (ap not g)

pub first-nests : (from to : List ℕ) (x : Bool) → x ≡ proper_beginning from to → x ≡ true → false ≡ may_move from to
unfolding may_move
first-nests from to x e f = rw (sym e ∙ f)

pub second-says : (from to : List ℕ) (x y : Bool) → x ≡ proper_beginning from to → x ≡ false → y ≡ proper_beginning to from → not y ≡ may_move from to
unfolding may_move
second-says from to x y e f g = rw (sym e ∙ f) (ap not g)

-- QUESTION 8: a path is handed back where a row is below p
handed-back : (p : List ℕ) (t : List Row) (o : found.Option (List ℕ)) → every_key well_formed t ≡ true → rising t ≡ true → buffer_is o ≡ least_after p [] t
    → found.is_some o ≡ not (is_empty (rows_below p t))
handed-back p t found.None e f h = ap not (sym (none_below p t e f (sym h)))
handed-back p t (found.Some b) e f h = ap not (sym (some_below p b t e f (sym h)))

pub eight_is : (s from : List ℕ) (o : found.Option (List ℕ)) → sound s ≡ true → buffer_is o ≡ least_after from [] (table_of s)
    → found.is_some o ≡ not (is_empty (rows_below from (table_of s)))
eight_is s from o ok e = handed-back from (table_of s) o (table-formed s ok) (table-rises s ok) e

-- QUESTION 9
-- no path is handed back of those whose rests do not go on
pub rests-are : (s from : List ℕ) (sh : Shape) (o : found.Option (List ℕ)) → sound s ≡ true → buffer_is o ≡ least_after from [] (keep (unfit (shape_is sh) from) (table_of s))
    → (r : Bool) → found.is_some o ≡ not r → r ≡ rests_fit (shape_is sh) from (table_of s)
unfolding rests_fit rest_fits unfit
rests-are s from sh o ok e r h =
    sym (ap not h ∙ twice r)
    ∙ ap not
    (handed-back from (keep (λ k. not (defined.goes_on (shape_is sh) (drop (length from) k))) (table_of s)) o
    (keep-passes well_formed _ well_formed (table_of s) (λ q a b. a) (table-formed s ok)) (keep-rises _ (table_of s) (table-rises s ok)) e)
    ∙ twice (is_empty (rows_below from (keep (λ k. not (defined.goes_on (shape_is sh) (drop (length from) k))) (table_of s))))
    ∙ none-fails (λ k. defined.goes_on (shape_is sh) (drop (length from) k)) from (table_of s)
  where
    twice : (x : Bool) → not (not x) ≡ x
    twice true = refl
    twice false = refl

module _ (s from to : List ℕ) (ok : sound s ≡ true) (formed_from : well_formed from ≡ true) (formed_to : well_formed to ≡ true) (begun old new : Shape)
    (start-is : shape_is begun ≡ defined.fresh) (old-is : shape_is old ≡ defined.feed (shape_is begun) from) (New-is : shape_is new ≡ defined.feed (shape_is begun) to)
    (x : Bool) (x-is : x ≡ no_wider (shape_is old) (shape_is new)) where
  from-start : (z : Shape) (q : List ℕ) → shape_is z ≡ defined.feed (shape_is begun) q → shape_is z ≡ defined.feed defined.fresh q
  from-start z q e = e ∙ ap (λ b. defined.feed b q) start-is

  pub nine-quick : x ≡ true → true ≡ every_key well_formed (moved from to (table_of s))
  nine-quick e =
      sym
      (nine-is from to (table_of s) (table-formed s ok)
      ∙ quick-yes from to (table_of s) formed_from formed_to (table-formed s ok) (ap₂ no_wider (sym (from-start old from old-is)) (sym (from-start new to New-is)) ∙ sym x-is ∙ e))

  pub nine-walk : (y : Bool) → y ≡ rests_fit (shape_is new) from (table_of s) → y ≡ every_key well_formed (moved from to (table_of s))
  nine-walk y f = f ∙ ap (λ z. rests_fit z from (table_of s)) (from-start new to New-is) ∙ sym (nine-is from to (table_of s) (table-formed s ok))

-- What the verdict on an image promises, and the law of each way out of the code.
-- Relies on: tree_check's Callers (all but the live count) and live_count's count of the table.
use Rattle.std.specs.Prelude.{ℕ, ◌<◌, ◌≤◌, ◌≡◌, refl, List, Bool, true, false, ◌&&◌, length, eqb, is_some, None, Some}
use Rattle.image.specs.Prelude.{sym, ap, ◌∙◌, false≢true, arith, eq-eqb, ne_eqb, eqb-true, eqb-false}
use Rattle.image.specs.Bytes.{u16}
use Rattle.image.specs.Image.{nodes_of, whole_nodes, header_of, header}
use Rattle.image.specs.Sound.{sound, table_of}
use Rattle.node.specs.Whole.{Whole, whole_parts}
use Rattle.lookup.specs.Root.{first-u16}
use Rattle.tree_check.specs.Answer.{Checked}
use Rattle.tree_check.specs.declared.Tally.{Tally}
use Rattle.laws.specs.ButLive.{parts_of, sound-live}
use Rattle.live_count.specs.RootSteps.{countable}
use Rattle.tree_check.specs.Whole.{Verified}
use Rattle.tree_check.specs.Callers.{Established, verified-yes, verified-no, sound-settled}
use Rattle.live_count.specs.Walk.{Countable}
use Rattle.octets.specs.Cap.{cap, cap-equal}

pub record Judged (image : List ℕ) (r : Checked) (seen : List ℕ) : Type 0 where
  pub answer : is_some r ≡ sound image
  pub holds : (t : Tally) → r ≡ Some t → Established image t seen

pub told-live : (image : List ℕ) (k : ℕ) → 1024 ≤ length image → k ≡ u16 image 10 → k ≡ (header_of image).live
unfolding header_of header
told-live image k h e = e ∙ sym (first-u16 image 10 h (omega arith))

turn : (a b : ℕ) → eqb a b ≡ eqb b a
turn a b = go (eqb a b) refl
  where
    go : (x : Bool) → eqb a b ≡ x → eqb a b ≡ eqb b a
    go true e = e ∙ sym (eq-eqb b a (sym (eqb-true a b e)))
    go false e = e ∙ sym (ne_eqb b a (λ q. eqb-false a b e (sym q)))

-- the ways out
module _ (image : List ℕ) (seen : List ℕ) (c : Checked) (v : Verified image c seen) where
  pub judged-no-tree : c ≡ None → Judged image None seen
  judged-no-tree e =
      record {
        answer = sym (sound-live image ∙ ap (λ b. b && eqb (header_of image).live (length (table_of image))) (verified-no image c seen v e));
        holds = λ t q. absurd (no-tally t q);
      }
    where
      no-tally : (t : Tally) → None ≡ Some t → ⊥
      no-tally t q = false≢true (ap is_some q)

  module _ (t : Tally) (is : c ≡ Some t) (whole : whole_nodes (length image) ≡ true) (told : ℕ) (told_is : told ≡ u16 image 10) where
    abbrev held : Established image t seen
    held = verified-yes image c t seen v is

    abbrev parts : Whole (length image)
    parts = whole_parts (length image) whole

    long : 1024 ≤ length image
    long = omega (arith, parts.filled, parts.enough)

    live-is : told ≡ (header_of image).live
    live-is = told-live image told long told_is

    small : (header_of image).live < 65535
    small = omega (arith, (parts_of image held.rules).live_high, parts.few)

    -- the answer Sound, with the tally
    yes : sound image ≡ true → Judged image (Some t) seen
    yes e = record { answer = sym e; holds = λ u q. same-tally u q }
      where
        same-tally : (u : Tally) → Some t ≡ Some u → Established image u seen
        same-tally u q = verified-yes image c u seen v (is ∙ q)

    no : sound image ≡ false → Judged image None seen
    no e = record { answer = sym e; holds = λ u q. absurd (false≢true (ap is_some q)) }

    pub judged-settled-yes : t.messages ≡ 0 → t.pairs ≡ told → Judged image (Some t) seen
    judged-settled-yes m p = yes (sound-settled image t seen held parts.few m ∙ eq-eqb (header_of image).live t.pairs (sym live-is ∙ sym p))

    pub judged-settled-no : t.messages ≡ 0 → (t.pairs ≡ told → ⊥) → Judged image None seen
    judged-settled-no m p = no (sound-settled image t seen held parts.few m ∙ ne_eqb (header_of image).live t.pairs (λ q. p (sym q ∙ sym live-is)))

    counted-sound : sound image ≡ eqb (cap (length (table_of image))) (header_of image).live
    counted-sound =
        sound-live image ∙ ap (λ b. b && eqb (header_of image).live (length (table_of image))) held.rules
        ∙ turn (header_of image).live (length (table_of image))
        ∙ sym (cap-equal (length (table_of image)) (header_of image).live small)

    pub judged-yes : (k : ℕ) → k ≡ cap (length (table_of image)) → k ≡ told → Judged image (Some t) seen
    judged-yes k e p = yes (counted-sound ∙ eq-eqb (cap (length (table_of image))) (header_of image).live (sym e ∙ p ∙ live-is))

    pub judged-no : (k : ℕ) → k ≡ cap (length (table_of image)) → (k ≡ told → ⊥) → Judged image None seen
    judged-no k e p = no (counted-sound ∙ ne_eqb (cap (length (table_of image))) (header_of image).live (λ q. p (e ∙ q ∙ sym live-is)))

  pub count-it : (t : Tally) → c ≡ Some t → Countable image
  count-it t e = countable image (verified-yes image c t seen v e).rules

-- the verdict as a Bool
pub verdict-yes : (image seen : List ℕ) (c : Checked) (t : Tally) → Judged image c seen → c ≡ Some t → true ≡ sound image
verdict-yes image seen c t j e = ap is_some (sym e) ∙ j.answer

pub verdict-no : (image seen : List ℕ) (c : Checked) → Judged image c seen → c ≡ None → false ≡ sound image
verdict-no image seen c j e = ap is_some (sym e) ∙ j.answer

pub whole_long : (len : ℕ) → whole_nodes len ≡ true → (1024 ≤ len) × (nodes_of len ≤ 1024)
whole_long len e = let p : Whole len = whole_parts len e in (omega (arith, p.filled, p.enough), p.few)

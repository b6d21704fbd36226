-- Request S-1: an accepted clear of the empty path, on any bytes whatever, leaves a store as one just made. "Straight after" it "a next that passes
-- questions 1 to 5 gives 8": whatever its two paths and its buffer. Relies on the contracts of the calls (image) and on Consequences.
use Rattle.std.specs.Prelude.{ℕ, ◌≤◌, ◌≡◌, refl, List, [], ◌∷◌, Bool, true, false, ◌&&◌, ◌||◌, length, eqb, ltb, leb}
use Rattle.image.specs.Prelude.{sym, ap, ◌∙◌, and-true, false≢true, le-leb}
use Rattle.image.specs.Path.{path_or_empty, path_limit}
use Rattle.image.specs.Table.{is_some, rows_below, rows_after, first_key, least_after}
use Rattle.image.specs.Image.{whole_nodes}
use Rattle.image.specs.Sound.{sound, table_of}
use Rattle.image.specs.Calls.{acts, asks, clear, next, ask, first_no, work_long, questions, query_questions, Answer, filled, number_of, act_table, table_after, table_at, refused, answer_at}
use Rattle.image.specs.Contract.{node_questions, first_no_on, Meets, Made}
use Rattle.laws.specs.Tables.{clear-empty}
use Rattle.demands.specs.Consequences.{number_is, all_yes, was-whole}

-- so demand 3's theorem begins anew from it
pub clear-makes : {s w s₁ w₁ : List ℕ} {a : Answer} → Meets s (acts (clear []) w) a s₁ w₁ → number_of a ≡ 0 → Made s₁
unfolding table_at table_after act_table
clear-makes {s} {w} m e =
    record {
      whole = rw m.size (was-whole s (acts (clear []) w) (all_yes m e));
      is_sound = m.leaves (all_yes m e);
      empty = m.table ∙ rw (all_yes m e) (clear-empty (table_of s));
    }

-- of a call that answers the number k: it passes questions 1 to 5
unfoldable pub passes_five : ℕ → Bool
passes_five k = eqb k 0 || ltb 5 k

eight-left : (w x y z : Bool) → passes_five (first_no (ask 1 w ∷ ask 2 x ∷ ask 3 y ∷ ask 5 z ∷ ask 8 false ∷ [])) ≡ true
    → first_no (ask 1 w ∷ ask 2 x ∷ ask 3 y ∷ ask 5 z ∷ ask 8 false ∷ []) ≡ 8
unfolding passes_five first_no
eight-left true true true true h = refl
eight-left true true true false h = absurd (false≢true h)
eight-left true true false z h = absurd (false≢true h)
eight-left true false y z h = absurd (false≢true h)
eight-left false x y z h = absurd (false≢true h)

-- a next on a store that holds no path
module _ {s s₁ w₁ p q buffer : List ℕ} {a : Answer} (empty : table_of s ≡ []) (m : Meets s (asks (next p q) buffer) a s₁ w₁) where
  number : first_no_on s (asks (next p q) buffer)
      ≡ first_no (ask 1 (whole_nodes (length s)) ∷ ask 2 (sound s) ∷ ask 3 (path_or_empty p && path_or_empty q) ∷ ask 5 (leb path_limit (length buffer)) ∷ ask 8 false ∷ [])
  unfolding first_no_on work_long node_questions questions query_questions least_after rows_below rows_after first_key is_some
  number = rw (empty, and-true (whole_nodes (length s))) refl

  answer-eight : first_no_on s (asks (next p q) buffer) ≡ 8 → a ≡ filled 8 0 buffer
  unfolding answer_at refused
  answer-eight e = m.answer ∙ rw e refl

  -- told by its number alone
  none_passes : passes_five (number_of a) ≡ true → a ≡ filled 8 0 buffer
  none_passes h =
      answer-eight (number ∙ eight-left (whole_nodes (length s)) (sound s) (path_or_empty p && path_or_empty q) (leb path_limit (length buffer))
      (ap passes_five (sym (number_is m ∙ number)) ∙ h))

  -- and by what it is given
  none-there : whole_nodes (length s) ≡ true → sound s ≡ true → path_or_empty p ≡ true → path_or_empty q ≡ true → path_limit ≤ length buffer → a ≡ filled 8 0 buffer
  none-there w g f h l = answer-eight (number ∙ rw (w, g, f, h, le-leb path_limit (length buffer) l) (unfold first_no in refl))

module _ {s w s₁ w₁ s₂ w₂ p q buffer : List ℕ} {a b : Answer} (m : Meets s (acts (clear []) w) a s₁ w₁) (accepted : number_of a ≡ 0)
    (n : Meets s₁ (asks (next p q) buffer) b s₂ w₂) where
  pub clear-then-next : passes_five (number_of b) ≡ true → b ≡ filled 8 0 buffer
  clear-then-next h = none_passes (clear-makes m accepted).empty n h

  -- these pass: any two paths, each well formed or empty, and any buffer that is long enough
  pub cleared-lists-none : path_or_empty p ≡ true → path_or_empty q ≡ true → path_limit ≤ length buffer → b ≡ filled 8 0 buffer
  cleared-lists-none f h l = none-there (clear-makes m accepted).empty n (clear-makes m accepted).whole (clear-makes m accepted).is_sound f h l

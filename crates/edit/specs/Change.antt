-- A change of one path as a message at the root: the message, its size, and when the table has a place for it.
use Rattle.std.specs.Prelude.{ℕ, ◌≤◌, ◌≡◌, refl, List, [], ◌∷◌, Bool, true, false, ◌||◌, cond, length, ltb}
use Rattle.image.specs.Prelude.{sym, ap, subst, ◌∙◌, false≢true, none, arith, ltb-true}
use Rattle.packed.specs.Form.Packed.{pair_limit}
use Rattle.image.specs.Bytes.{same, before}
use Rattle.image.specs.Path.{well_formed, value_fits, below}
use Rattle.image.specs.Entry.{Message, puts, drops, clears, message}
use Rattle.image.specs.Table.{Row, find, is_some, with_row, without, without_below, leads, rising}
use Rattle.image.specs.Meaning.{apply}
use Rattle.image.specs.Sound.{sound_message, lowest, highest}
use Rattle.octets.specs.Order.{and_right, before-not-same, before-total}
use Rattle.laws.specs.Rising.{find-leads}
use Rattle.packed.specs.Form.Leaves.{value_length}
use Rattle.append.specs.Laws.RootMessage.{put-sound, drop-sound, clear-sound}
use Rattle.laws.specs.Encode.{bytes_of}
use Rattle.laws.specs.Upkeep.Size.{put-size, drop-size, clear-size}
use Rattle.laws.specs.Tables.{with-length}
use Rattle.laws.specs.Follow.{formed-length}

-- a message whose entry is no longer than a pair may be
abbrev pub Sized : Message → Type 0
Sized m = length (bytes_of (message m)) ≤ pair_limit

-- what a call has asked before it changes the table t of a store of n nodes by a message: questions 3, 4 and 10
pub record Allowed (m : Message) (t : List Row) (n : ℕ) : Type 0 where
  pub formed : sound_message lowest highest m ≡ true
  pub sized : Sized m
  pub place : (p v : List ℕ) → m ≡ puts p v → is_some (find p t) || ltb (length t) n ≡ true

pub put-allowed : (p v : List ℕ) (t : List Row) (n : ℕ) → well_formed p ≡ true → value_fits v ≡ true → is_some (find p t) || ltb (length t) n ≡ true → Allowed (puts p v) t n
put-allowed p v t n e f h =
    let a = formed-length p e in
    let b = value_length v f in
    let z = put-size p v in
    record { formed = put-sound p v e f; sized = omega arith; place = λ q w g. go q w g }
  where
    go : (q w : List ℕ) → puts p v ≡ puts q w → is_some (find q t) || ltb (length t) n ≡ true
    go q w g = let z : p ≡ q = cc in subst (λ x. is_some (find x t) || ltb (length t) n ≡ true) z h

no-put-drops : (p q w : List ℕ) → drops p ≡ puts q w → ⊥
no-put-drops p q w g = let z : ◌≡◌ {A = ℕ} 0 1 = cc in omega arith

no-put-clears : (p q w : List ℕ) → clears p ≡ puts q w → ⊥
no-put-clears p q w g = let z : ◌≡◌ {A = ℕ} 0 1 = cc in omega arith

pub drop-allowed : (p : List ℕ) (t : List Row) (n : ℕ) → well_formed p ≡ true → Allowed (drops p) t n
drop-allowed p t n e =
    let a = formed-length p e in
    let z = drop-size p in
    record { formed = drop-sound p e; sized = omega arith; place = λ q w g. absurd (no-put-drops p q w g) }

pub clear-allowed : (p : List ℕ) (t : List Row) (n : ℕ) → well_formed p ≡ true → Allowed (clears p) t n
clear-allowed p t n e =
    let a = formed-length p e in
    let z = clear-size p in
    record { formed = clear-sound p e; sized = omega arith; place = λ q w g. absurd (no-put-clears p q w g) }

over-length : (p v : List ℕ) (t : List Row) → rising t ≡ true → is_some (find p t) ≡ true → length (with_row p v t) ≤ length t
unfolding with_row find is_some rising leads
over-length p v [] e f = absurd (false≢true f)
over-length p v (r ∷ t) e f = go (before r.key p) refl (same p r.key) refl (over-length p v t (and_right (leads r.key t) _ e))
  where
    absent : before p r.key ≡ true → find p (r ∷ t) ≡ none
    absent h = find-leads p (r ∷ t) e h

    go : (x : Bool) → before r.key p ≡ x → (y : Bool) → same p r.key ≡ y → (is_some (find p t) ≡ true → length (with_row p v t) ≤ length t)
        → length (with_row p v (r ∷ t)) ≤ length (r ∷ t)
    go true h y k ih =
        let other : same p r.key ≡ false = before-not-same r.key p h in
        let later : is_some (find p t) ≡ true = rw other at f in
        rw h (omega (arith, ih later))
    go false h true k ih = rw (h, k) (omega arith)
    go false h false k ih =
        let none-there : is_some (find p (r ∷ t)) ≡ false = ap is_some (absent (before-total p r.key k h)) in
        absurd (false≢true (sym none-there ∙ f))

without-length : (p : List ℕ) (t : List Row) → length (without p t) ≤ length t
unfolding without
without-length p [] = omega arith
without-length p (r ∷ t) = go (same p r.key) (without-length p t)
  where
    go : (x : Bool) → length (without p t) ≤ length t → length (cond x (without p t) (r ∷ without p t)) ≤ length (r ∷ t)
    go true h = omega arith
    go false h = omega arith

cleared-length : (p : List ℕ) (t : List Row) → length (without_below p t) ≤ length t
unfolding without_below
cleared-length p [] = omega arith
cleared-length p (r ∷ t) = go (below r.key p) (cleared-length p t)
  where
    go : (x : Bool) → length (without_below p t) ≤ length t → length (cond x (without_below p t) (r ∷ without_below p t)) ≤ length (r ∷ t)
    go true h = omega arith
    go false h = omega arith

-- so the table after an allowed change has at most n rows
pub few-after : (m : Message) (t : List Row) (n : ℕ) → rising t ≡ true → length t ≤ n → Allowed m t n → length (apply [] m t) ≤ n
unfolding apply
few-after (puts p v) t n r h a = go (is_some (find p t)) refl (ltb (length t) n) refl (a.place p v refl)
  where
    go : (x : Bool) → is_some (find p t) ≡ x → (y : Bool) → ltb (length t) n ≡ y → is_some (find p t) || ltb (length t) n ≡ true → length (with_row p v t) ≤ n
    go true e y f q = omega (arith, over-length p v t r e)
    go false e true f q = omega (arith, with-length p v t, ltb-true (length t) n f)
    go false e false f q = let z : false ≡ true = rw (e, f) at q in absurd (false≢true z)
few-after (drops p) t n r h a = omega (arith, without-length p t)
few-after (clears p) t n r h a = omega (arith, cleared-length p t)

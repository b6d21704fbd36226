-- Step lemmas of the functions that hold one path against a trail: what each exit of the code owes, over plain lists and numbers.
-- Relies on the definitions of Walk and on the contracts of node.
use Rattle.std.specs.Prelude.{ℕ, ◌+◌, ◌-◌, ◌<◌, ◌≤◌, ◌≡◌, refl, List, [], ◌∷◌, ◌++◌, Bool, true, false, ◌&&◌, length, take, drop, get_or, leb, zero, suc}
use Rattle.std.specs.List.{list_all}
use Rattle.std.specs.Borrow.{Bor}
use Rattle.image.specs.Prelude.{sym, ap, ap₂, ◌∙◌, true≢false, and-true, arith, length-append, le-leb, lt-leb, length-drop, Option, none, some}
use Rattle.image.specs.Entry as defined
use Rattle.octets.specs.Order.{and-false, and_assoc}
use Rattle.std.proofs.lemmas.List.Folds.{list_all_at, list_all-append}
use Rattle.lookup.specs.Look.{part-rest}
use Rattle.node.specs.Lent.{entry_is, message_is, left_of}
use Rattle.image.specs.Bytes.{u16}
use Rattle.node.specs.Entries.{list_of, read_some, cons_then, list-cons}
use Rattle.node.specs.declared.entries.Entries.{Entries}
use Rattle.node.specs.declared.entries.Entry.{Entry}
use Rattle.node.specs.Search.Latest.{entry_says, newest_among, newer-nothing}
use Rattle.node.specs.Search.Messages.{is_message, has_message}
use Rattle.live_count.specs.Live.{holds_no_message, one, short, Shortens}
use Rattle.live_count.specs.Notes.Notes.{NoPut}
use Rattle.image.specs.Path.{owns}
use Rattle.octets.specs.Order.{and_left, and_right}
use Rattle.live_count.specs.Noted.{keyed, LeafTold, KeyTold}
use Rattle.live_count.specs.declared.position.Position.{Position}
use Rattle.live_count.specs.declared.trail.Stage.{Stage}
use Rattle.live_count.specs.declared.trail.Trail.{Trail}
use Rattle.live_count.specs.Walk.{stages_of, says_nothing, passes, passing, LiftsWithin, Deeper, decides, count_among}

-- the nodes of a trail, one by one
pub hidden : (xs : List Stage) (q : List ℕ) (i : ℕ) (d : Stage) (r : Bool) (ys : List Stage) → ys ≡ xs → i < length ys
    → r ≡ holds_no_message (newest_among (left_of (get_or ys i d).entries) (take (length q - (get_or ys i d).lift) (drop (get_or ys i d).lift q))) → r ≡ false → false ≡ passes xs q
unfolding passes
hidden xs q i d r ys e l h n =
    let f : says_nothing q (get_or ys i d) ≡ false = ap (λ z. holds_no_message (newest_among (left_of (get_or ys i d).entries) z)) (sym (part-rest (get_or ys i d).lift q)) ∙ sym h ∙ n in
    sym (ap (λ zs. short q && list_all (says_nothing q) zs) (sym e) ∙ ap (λ x. short q && x) (list_all_at (says_nothing q) ys i d l f) ∙ and-false (short q))

pub seen : (xs : List Stage) (q : List ℕ) (n : ℕ) (ys : List Stage) → ys ≡ xs → length q ≤ 64 → n ≡ 0 → list_all (says_nothing q) (drop n ys) ≡ true → true ≡ passes xs q
unfolding passes short
seen xs q n ys e l m h =
    sym (ap (λ zs. short q && list_all (says_nothing q) zs) (sym e) ∙ ap (λ x. x && list_all (says_nothing q) ys) (le-leb (length q) 64 l)
    ∙ ap (λ i. list_all (says_nothing q) (drop i ys)) (sym m) ∙ h)

-- a path that is too long passes no trail
pub passes-short : (t : Trail) → Shortens (λ q. passing t q)
unfolding Shortens passes short
passes-short t = λ q h. ap (λ x. x && list_all (says_nothing q) (stages_of t)) (lt-leb (length q) 64 h)

pub no-trail : (t : Trail) → t.depth ≡ 0 → (q : List ℕ) → passing t q ≡ short q
unfolding passes
no-trail t e q = ap (λ d. short q && list_all (says_nothing q) (take d t.stages)) e ∙ and-true (short q)

-- the path of a key under a prefix
module _ (p : List ℕ) (t : Trail) (key : List ℕ) where
  pub key-long : 64 < length (p ++ key) → false ≡ passing t (p ++ key)
  unfolding Shortens
  key-long h = sym (passes-short t (p ++ key) h)

  -- the trail lifts no more than a longer path has
  pub key-lifts : (q : List ℕ) → q ≡ p ++ key → LiftsWithin (length p) t → LiftsWithin (length q) t
  key-lifts q e f = λ i d h. let a = f i d h in let l : length q ≡ length p + length key = ap length e ∙ length-append p key in omega arith

-- whether an entry decides its path, by its kind
module _ (ok : List ℕ → Bool) (prefix : List ℕ) (e : Entry) (es : List defined.Entry) where
  pub pair-decides : (k v : Bor (List ℕ)) (r : Bool) → e ≡ Entry.Pair k v → r ≡ ok (prefix ++ k.now) → r ≡ decides ok prefix (entry_is e) es
  unfolding decides
  pair-decides k v r q h = h ∙ rw q

  pub put-hidden : (k v : List ℕ) (b : Bool) → entry_is e ≡ defined.message (defined.puts k v) → b ≡ holds_no_message (newest_among es k) → b ≡ false → b ≡ decides ok prefix (entry_is e) es
  unfolding decides
  put-hidden k v b q h n = ap (λ x. x) n ∙ sym (ap (λ x. decides ok prefix x es) q ∙ ap (λ x. x && ok (prefix ++ k)) (sym h ∙ n))

  pub put-decides : (k v : List ℕ) (b r : Bool) → entry_is e ≡ defined.message (defined.puts k v) → b ≡ holds_no_message (newest_among es k) → b ≡ true
      → r ≡ ok (prefix ++ k) → r ≡ decides ok prefix (entry_is e) es
  unfolding decides
  put-decides k v b r q h n g = g ∙ sym (ap (λ x. decides ok prefix x es) q ∙ ap (λ x. x && ok (prefix ++ k)) (sym h ∙ n))

  pub none-decides : ((k v : Bor (List ℕ)) → e ≡ Entry.Pair k v → ⊥) → NoPut (entry_is e) → false ≡ decides ok prefix (entry_is e) es
  none-decides = go e
    where
      message : (m : defined.Message) → NoPut (defined.message m) → false ≡ decides ok prefix (defined.message m) es
      message (defined.puts k v) h = absurd (h k v refl)
      message (defined.drops k) h = unfold decides in refl
      message (defined.clears k) h = unfold decides in refl

      go : (e : Entry) → ((k v : Bor (List ℕ)) → e ≡ Entry.Pair k v → ⊥) → NoPut (entry_is e) → false ≡ decides ok prefix (entry_is e) es
      go (Entry.Pair k v) h g = absurd (h k v refl)
      go (Entry.Child i k) h g = unfold decides in refl
      go (Entry.Message m) h g = message (message_is m) g

-- the count of entries, from the first on
module _ (ok : List ℕ → Bool) (prefix : List ℕ) where
  pub count-end : (es : List defined.Entry) (n N : ℕ) → es ≡ [] → n + count_among ok prefix es ≡ N → n ≡ N
  unfolding count_among
  count-end es n N q inv = let z : n + 0 ≡ N = rw q at inv in omega arith

  pub count-on : (e : defined.Entry) (es ts : List defined.Entry) (n N : ℕ) (b : Bool) → es ≡ e ∷ ts → b ≡ decides ok prefix e ts → n + count_among ok prefix es ≡ N
      → b ≡ true → n + 1 + count_among ok prefix ts ≡ N
  unfolding count_among one
  count-on e es ts n N b q h inv t =
      let z : n + (one (decides ok prefix e ts) + count_among ok prefix ts) ≡ N = rw q at inv in
      let w : one (decides ok prefix e ts) ≡ 1 = ap one (sym h ∙ t) in
      omega arith

  pub count-past : (e : defined.Entry) (es ts : List defined.Entry) (n N : ℕ) (b : Bool) → es ≡ e ∷ ts → b ≡ decides ok prefix e ts → n + count_among ok prefix es ≡ N
      → b ≡ false → n + count_among ok prefix ts ≡ N
  unfolding count_among one
  count-past e es ts n N b q h inv t =
      let z : n + (one (decides ok prefix e ts) + count_among ok prefix ts) ≡ N = rw q at inv in
      let w : one (decides ok prefix e ts) ≡ 0 = ap one (sym h ∙ t) in
      omega arith

no-message : (es : List defined.Entry) (r : List ℕ) → has_message es ≡ false → holds_no_message (newest_among es r) ≡ true
unfolding has_message newest_among entry_says is_message holds_no_message
no-message [] r h = refl
no-message (defined.pair k v ∷ es) r h = ap holds_no_message (newer-nothing (newest_among es r)) ∙ no-message es r h
no-message (defined.child i k ∷ es) r h = ap holds_no_message (newer-nothing (newest_among es r)) ∙ no-message es r h
no-message (defined.message m ∷ es) r h = absurd (true≢false h)

-- the trail for a node's children
module _ (es : List defined.Entry) (lift : ℕ) (t : Trail) where
  pub same-trail : has_message es ≡ false → Deeper es lift t t
  same-trail f = record { test = λ q. joined (passing t q) (holds_no_message (newest_among es (drop lift q))) (no-message es (drop lift q) f); depth = omega arith }
    where
      joined : (x y : Bool) → y ≡ true → x ≡ x && y
      joined true y e = sym e
      joined false y e = refl

  pub longer-trail : (r : Trail) (x : Stage) → stages_of r ≡ stages_of t ++ x ∷ [] → r.depth ≡ t.depth + 1 → left_of x.entries ≡ es → x.lift ≡ lift → Deeper es lift t r
  unfolding passes
  longer-trail r x e d g l = record { test = tested; depth = omega arith }
    where
      tested : (q : List ℕ) → passing r q ≡ passing t q && holds_no_message (newest_among es (drop lift q))
      tested q =
          ap (λ xs. short q && list_all (says_nothing q) xs) e
          ∙ ap (λ y. short q && y) (list_all-append (says_nothing q) (stages_of t) (x ∷ []) ∙ ap (λ y. list_all (says_nothing q) (stages_of t) && y) (and-true (says_nothing q x)))
          ∙ sym (and_assoc (short q) (list_all (says_nothing q) (stages_of t)) (says_nothing q x))
          ∙ ap₂ (λ fs n. (short q && list_all (says_nothing q) (stages_of t)) && holds_no_message (newest_among fs (drop n q))) g l

-- there are no more entries than bytes
few-in : (n : ℕ) (s : List ℕ) → length s ≤ n → length (list_of s) ≤ length s
few-in n [] h = unfold list_of read_some in omega arith
few-in zero (b ∷ s) h = absurd (omega arith)
few-in (suc n) (b ∷ s) h = go (leb 4 (length (b ∷ s)) && leb (u16 (b ∷ s) 0) (length (b ∷ s) - 4)) refl (few-in n (drop (u16 (b ∷ s) 0) (drop 4 (b ∷ s))))
  where
    rest : List ℕ
    rest = drop (u16 (b ∷ s) 0) (drop 4 (b ∷ s))

    cons-few : (o : Option defined.Entry) (es : List defined.Entry) → length (cons_then o es) ≤ length es + 1
    cons-few none es = unfold cons_then in omega arith
    cons-few (some e) es = unfold cons_then in omega arith

    go : (x : Bool) → leb 4 (length (b ∷ s)) && leb (u16 (b ∷ s) 0) (length (b ∷ s) - 4) ≡ x → (length rest ≤ n → length (list_of rest) ≤ length rest) → length (list_of (b ∷ s)) ≤ length (b ∷ s)
    go true e ih =
        let f : list_of (b ∷ s) ≡ cons_then (defined.entry_of (u16 (b ∷ s) 2) (take (u16 (b ∷ s) 0) (drop 4 (b ∷ s)))) (list_of rest) = list-cons (b ∷ s) (omega arith) ∙ rw e in
        let l : length rest ≤ length s = let x = length-drop (u16 (b ∷ s) 0) (drop 4 (b ∷ s)) in let y = length-drop 4 (b ∷ s) in omega arith in
        let m = ih (omega arith) in
        let c = cons-few (defined.entry_of (u16 (b ∷ s) 2) (take (u16 (b ∷ s) 0) (drop 4 (b ∷ s)))) (list_of rest) in
        let g = ap length f in
        omega arith
    go false e ih = let f : list_of (b ∷ s) ≡ [] = list-cons (b ∷ s) (omega arith) ∙ rw e in let g = ap length f in omega arith

pub few-left : (it : Entries) → length (left_of it) ≤ length it.rest.now
few-left it = few-in (length it.rest.now) it.rest.now (omega arith)

-- what the first entry of a leaf is
module _ (p : Position) (e : Entry) (es ts : List defined.Entry) (q : es ≡ entry_is e ∷ ts) (h : LeafTold p es) where
  first-keyed : keyed p.prefix h.lo h.hi (entry_is e ∷ ts) ≡ true
  first-keyed = ap (λ l. keyed p.prefix h.lo h.hi l) (sym q) ∙ h.keys

  module _ (k v : Bor (List ℕ)) (f : e ≡ Entry.Pair k v) where
    pair-keyed : (owns h.lo h.hi k.now && short (p.prefix ++ k.now)) && keyed p.prefix h.lo h.hi ts ≡ true
    unfolding keyed
    pair-keyed = rw f at first-keyed

    pub leaf-key : KeyTold p k.now
    leaf-key =
        let a = and_left _ _ pair-keyed in
        record { lo = h.lo; hi = h.hi; owned = and_left _ _ a; short_path = and_right (owns h.lo h.hi k.now) _ a; tells = h.tells }

    pub leaf-rest : LeafTold p ts
    leaf-rest = record { lo = h.lo; hi = h.hi; keys = and_right (owns h.lo h.hi k.now && short (p.prefix ++ k.now)) _ pair-keyed; tells = h.tells }

  pub leaf-other : ((k v : Bor (List ℕ)) → e ≡ Entry.Pair k v → ⊥) → ⊥
  leaf-other f = go e f first-keyed
    where
      go : (x : Entry) → ((k v : Bor (List ℕ)) → x ≡ Entry.Pair k v → ⊥) → keyed p.prefix h.lo h.hi (entry_is x ∷ ts) ≡ true → ⊥
      go (Entry.Pair k v) f g = f k v refl
      go (Entry.Child i k) f g = let z : false ≡ true = unfold keyed in g in true≢false (sym z)
      go (Entry.Message m) f g = let z : false ≡ true = unfold keyed in g in true≢false (sym z)

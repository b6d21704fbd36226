-- The entries that decide a path are as many as the rows of a sound tree's table.
-- Relies on the laws of tables and of sound trees (laws: RowsRising, LookupTable, Filter, Reading's Seek and SeekHere) and on KeepLaws.
use Rattle.std.specs.Prelude.{ℕ, ◌+◌, ◌<◌, ◌≡◌, refl, List, [], ◌∷◌, ◌++◌, Bool, true, false, ◌&&◌, cond, length, drop}
use Rattle.image.specs.Prelude.{sym, ap, ◌∙◌, Option, none, some, arith, length-append, drop-append_seam, drop-append-add}
use Rattle.image.specs.Bytes.{begins, shared}
use Rattle.image.specs.Path.{well_formed, owns}
use Rattle.image.specs.Entry.{Message, puts, drops, clears}
use Rattle.image.specs.Table.{Row, find, is_some, with_row, under_prefix, every_key, rising}
use Rattle.image.specs.Image.{Tree, unread, leaf, interior, Forest, end, tree}
use Rattle.image.specs.Meaning.{says_of, newest, high_of, apply, apply_all, rows, rows_in}
use Rattle.image.specs.Sound.{sound_tree, sound_forest, sound_message, sound_messages}
use Rattle.octets.specs.Order.{and_left, and_right, not_so, same_refl, shared-append}
use Rattle.laws.specs.Tables.{find-fails}
use Rattle.laws.specs.RowsRising.{every-key, rising-apply, rows-rise-in}
use Rattle.laws.specs.LookupTable.{parts, inner, outside-in}
use Rattle.laws.specs.Filter.{keep, keep_append, keep_all, keep-passes}
use Rattle.laws.specs.Reading.Relative.{lifts}
use Rattle.laws.specs.Reading.SeekHere.{high-split, high-under}
use Rattle.laws.specs.Reading.Seek.{holds, keys, keys-hold, present, stands, key-passes}
use Rattle.live_count.specs.Live.{holds_no_message, one, short, Shortens, count_rows, count_puts, live_here, live_branches}
use Rattle.live_count.specs.KeepLaws.{keep-ext, with-length, added, quiet_put, message-keep, owned-apply, all-begin, newest-nil, newest-cons}

keep-length : (test : List ℕ → Bool) (r : Row) (t : List Row) → length (keep test (r ∷ t)) ≡ one (test r.key) + length (keep test t)
unfolding keep one
keep-length test r t = go (test r.key) refl
  where
    go : (x : Bool) → test r.key ≡ x → length (cond (test r.key) (r ∷ keep test t) (keep test t)) ≡ one (test r.key) + length (keep test t)
    go true e = rw e (omega arith)
    go false e = rw e (omega arith)

nothing-kept : (ok : List ℕ → Bool) → 0 ≡ length (keep ok [])
unfolding keep
nothing-kept ok = refl

-- one message: what it adds by itself, and what it leaves of the table
unfoldable adds : (List ℕ → Bool) → List ℕ → Message → ℕ
adds ok prefix (puts s v) = one (ok (prefix ++ s))
adds ok prefix (drops s) = 0
adds ok prefix (clears s) = 0

zero-plus : (n : ℕ) → n ≡ 0 + n
zero-plus n = omega arith

-- a put's own path is not among the rows that it says nothing of
put-absent : (test : List ℕ → Bool) (prefix s v : List ℕ) (t : List Row) → every_key (λ q. begins prefix q) t ≡ true
    → find (prefix ++ s) (keep (λ q. test q && holds_no_message (says_of (puts s v) (drop (length prefix) q))) t) ≡ none
put-absent test prefix s v t g =
    find-fails quiet (prefix ++ s) (keep (λ q. test q && quiet q) t) (keep-passes (λ q. begins prefix q) (λ q. test q && quiet q) quiet t (λ q a b. and_right (test q) _ b) g) named-it
  where
    quiet : List ℕ → Bool
    quiet q = holds_no_message (says_of (puts s v) (drop (length prefix) q))

    named-it : quiet (prefix ++ s) ≡ false
    named-it = quiet_put s v (drop (length prefix) (prefix ++ s)) ∙ rw (drop-append_seam prefix s, same_refl s)

message-count : (test : List ℕ → Bool) (prefix : List ℕ) (m : Message) (t : List Row) → rising t ≡ true → every_key (λ q. begins prefix q) t ≡ true
    → length (keep test (apply prefix m t)) ≡ adds test prefix m + length (keep (λ q. test q && holds_no_message (says_of m (drop (length prefix) q))) t)
message-count test prefix m t e g = ap length (message-keep test prefix m t e g) ∙ sum m
  where
    sum : (m : Message) → length (added test prefix m (keep (λ q. test q && holds_no_message (says_of m (drop (length prefix) q))) t))
        ≡ adds test prefix m + length (keep (λ q. test q && holds_no_message (says_of m (drop (length prefix) q))) t)
    sum (puts s v) = unfold added adds in go (test (prefix ++ s)) (keep (λ q. test q && holds_no_message (says_of (puts s v) (drop (length prefix) q))) t) (put-absent test prefix s v t g)
      where
        go : (x : Bool) (K : List Row) → find (prefix ++ s) K ≡ none → length (cond x (with_row (prefix ++ s) v K) K) ≡ one x + length K
        go true K f = unfold one in (with-length (prefix ++ s) v K f ∙ (omega arith))
        go false K f = unfold one in omega arith
    sum (drops s) = unfold added adds in zero-plus (length (keep (λ q. test q && holds_no_message (says_of (drops s) (drop (length prefix) q))) t))
    sum (clears s) = unfold added adds in zero-plus (length (keep (λ q. test q && holds_no_message (says_of (clears s) (drop (length prefix) q))) t))

-- all the messages of a node
puts-cons : (ok : List ℕ → Bool) (prefix : List ℕ) (m : Message) (ms : List Message)
    → count_puts ok prefix (m ∷ ms) ≡ adds (λ q. ok q && holds_no_message (newest ms (drop (length prefix) q))) prefix m + count_puts ok prefix ms
unfolding count_puts adds
puts-cons ok prefix (puts s v) ms = rw (drop-append_seam prefix s)
puts-cons ok prefix (drops s) ms = omega arith
puts-cons ok prefix (clears s) ms = omega arith

pub messages-count : (ok : List ℕ → Bool) (lo hi : List ℕ) (ms : List Message) (t : List Row) → sound_messages lo hi ms ≡ true → rising t ≡ true
    → every_key (owns lo hi) t ≡ true → length (keep ok (apply_all (shared lo hi) ms t))
    ≡ count_puts ok (shared lo hi) ms + length (keep (λ q. ok q && holds_no_message (newest ms (drop (length (shared lo hi)) q))) t)
unfolding apply_all sound_messages
messages-count ok lo hi [] t h e o =
    ap length (keep-ext ok _ (owns lo hi) t o (λ q n. newest-nil (ok q) (drop (length (shared lo hi)) q))) ∙ no-puts (length (keep (λ q. ok q && holds_no_message (newest [] (drop (length (shared lo hi)) q))) t))
  where
    no-puts : (n : ℕ) → n ≡ count_puts ok (shared lo hi) [] + n
    no-puts n = unfold count_puts in omega arith
messages-count ok lo hi (m ∷ ms) t h e o =
    let prefix : List ℕ = shared lo hi in
    let first : sound_message lo hi m ≡ true = and_left _ _ h in
    let a : length (keep ok (apply_all prefix ms (apply prefix m t))) ≡ count_puts ok prefix ms + length (keep (λ q. ok q && holds_no_message (newest ms (drop (length prefix) q))) (apply prefix m t))
    = messages-count ok lo hi ms (apply prefix m t) (and_right (sound_message lo hi m) _ h) (rising-apply prefix m t e) (owned-apply lo hi m t first o) in
    let b : length (keep (λ q. ok q && holds_no_message (newest ms (drop (length prefix) q))) (apply prefix m t))
    ≡ adds (λ q. ok q && holds_no_message (newest ms (drop (length prefix) q))) prefix m
    + length (keep (λ q. ok q && holds_no_message (newest ms (drop (length prefix) q)) && holds_no_message (says_of m (drop (length prefix) q))) t)
    = message-count (λ q. ok q && holds_no_message (newest ms (drop (length prefix) q))) prefix m t e (all-begin lo hi t o) in
    let c : length (keep (λ q. ok q && holds_no_message (newest ms (drop (length prefix) q)) && holds_no_message (says_of m (drop (length prefix) q))) t)
    ≡ length (keep (λ q. ok q && holds_no_message (newest (m ∷ ms) (drop (length prefix) q))) t)
    = ap length (keep-ext _ _ (owns lo hi) t o (λ q n. newest-cons (ok q) m ms (drop (length prefix) q))) in
    let d = puts-cons ok prefix m ms in
    omega arith

rows-count : (ok : List ℕ → Bool) (prefix : List ℕ) (rs : List Row) → count_rows ok prefix rs ≡ length (keep ok (under_prefix prefix rs))
unfolding count_rows under_prefix
rows-count ok prefix [] = nothing-kept ok
rows-count ok prefix (r ∷ rs) =
    let a = keep-length ok (record { key = prefix ++ r.key; value = r.value }) (under_prefix prefix rs) in
    let b = rows-count ok prefix rs in
    omega arith

-- a child's pivots, with and without what its parent lifts
child-here : (t : Tree) (ok : List ℕ → Bool) (prefix s h : List ℕ)
    → live_here t ok (prefix ++ shared s h) (drop (lifts s h) h) ≡ live_here t ok (shared (prefix ++ s) (prefix ++ h)) (drop (lifts (prefix ++ s) (prefix ++ h)) (prefix ++ h))
unfolding lifts
child-here t ok prefix s h = rw (shared-append prefix s h, length-append prefix (shared s h), drop-append-add prefix h (length (shared s h)))

mutual
  unfolding rows rows_in live_here live_branches

  pub live-here : (t : Tree) (ok : List ℕ → Bool) (lo hi : List ℕ) → sound_tree t lo hi ≡ true
      → live_here t ok (shared lo hi) (drop (lifts lo hi) hi) ≡ length (keep ok (rows t lo hi))
  live-here (unread i) ok lo hi e = nothing-kept ok
  live-here (leaf i rs) ok lo hi e = rows-count ok (shared lo hi) rs
  live-here (interior i f ms) ok lo hi e =
      let n = inner i f ms lo hi e in
      let prefix : List ℕ = shared lo hi in
      let T : List Row = rows_in f prefix hi in
      let branches : live_branches f (λ q. ok q && holds_no_message (newest ms (drop (length prefix) q))) prefix (drop (lifts lo hi) hi)
      ≡ length (keep (λ q. ok q && holds_no_message (newest ms (drop (length prefix) q))) T)
      = live-branches f (λ q. ok q && holds_no_message (newest ms (drop (length prefix) q))) prefix lo (drop (lifts lo hi) hi) (rw (high-split lo hi) n.branches)
      ∙ ap (λ h. length (keep (λ q. ok q && holds_no_message (newest ms (drop (length prefix) q))) (rows_in f prefix h))) (high-split lo hi) in
      ap (λ z. count_puts ok prefix ms + z) branches
      ∙ sym (messages-count ok lo hi ms T n.wait (rows-rise-in f prefix lo hi n.branches)
      (every-key (owns lo hi) T (λ q o. outside-in f prefix lo hi q n.branches o)))

  pub live-branches : (f : Forest) (ok : List ℕ → Bool) (prefix lo hi : List ℕ) → sound_forest f prefix lo (prefix ++ hi) ≡ true
      → live_branches f ok prefix hi ≡ length (keep ok (rows_in f prefix (prefix ++ hi)))
  live-branches end ok prefix lo hi e = nothing-kept ok
  live-branches (tree s t f) ok prefix lo hi e =
      let p = parts s t f prefix lo (prefix ++ hi) e in
      let h : List ℕ = high_of [] hi f in
      let a : sound_tree t (prefix ++ s) (prefix ++ h) ≡ true = rw (high-under prefix hi f) at p.first in
      let b : live_here t ok (prefix ++ shared s h) (drop (lifts s h) h) ≡ length (keep ok (rows t (prefix ++ s) (prefix ++ h)))
      = child-here t ok prefix s h ∙ live-here t ok (prefix ++ s) (prefix ++ h) a in
      let c : live_branches f ok prefix hi ≡ length (keep ok (rows_in f prefix (prefix ++ hi))) = live-branches f ok prefix lo hi p.later in
      let d : length (keep ok (rows t (prefix ++ s) (prefix ++ h) ++ rows_in f prefix (prefix ++ hi))) ≡ length (keep ok (rows t (prefix ++ s) (prefix ++ h))) + length (keep ok (rows_in f prefix (prefix ++ hi)))
      = ap length (keep_append ok (rows t (prefix ++ s) (prefix ++ h)) (rows_in f prefix (prefix ++ hi))) ∙ length-append (keep ok (rows t (prefix ++ s) (prefix ++ h))) (keep ok (rows_in f prefix (prefix ++ hi))) in
      rw (high-under prefix hi f) (omega arith)

-- every key of a sound tree is short
short-formed : (lo hi q : List ℕ) → holds lo hi q ≡ true → short q ≡ true
unfolding holds well_formed short
short-formed lo hi q h = and_left _ _ (and_left _ _ h)

pub all_short : (t : Tree) (lo hi : List ℕ) → sound_tree t lo hi ≡ true → every_key short (rows t lo hi) ≡ true
all_short t lo hi e = every-key short (rows t lo hi) (λ q n. go q n (find q (rows t lo hi)) refl)
  where
    there : (q v : List ℕ) → find q (rows t lo hi) ≡ some v → present q (rows t lo hi) ≡ true
    there q v f = unfold present is_some in rw f

    go : (q : List ℕ) → short q ≡ false → (x : Option (List ℕ)) → find q (rows t lo hi) ≡ x → find q (rows t lo hi) ≡ none
    go q n none f = f
    go q n (some v) f =
        not_so (short-formed lo hi q (key-passes (holds lo hi) q (keys t lo hi) (stands t lo hi q (there q v f)) (keys-hold t lo hi e))) n

-- from the root, where nothing is lifted: the length of the table
pub live-root : (t : Tree) (hi : List ℕ) → sound_tree t [] hi ≡ true → live_here t short [] hi ≡ length (rows t [] hi)
unfolding lifts shared
live-root t hi e = live-here t short [] hi e ∙ ap length (keep_all short (rows t [] hi) (all_short t [] hi e))

-- a prefix that is too long for any path: no entry under it counts
long-rows : (ok : List ℕ → Bool) (prefix : List ℕ) (rs : List Row) → Shortens ok → 64 < length prefix → count_rows ok prefix rs ≡ 0
unfolding count_rows Shortens one
long-rows ok prefix [] h l = refl
long-rows ok prefix (r ∷ rs) h l =
    let n = length-append prefix r.key in
    let a : one (ok (prefix ++ r.key)) ≡ 0 = ap one (h (prefix ++ r.key) (omega arith)) in
    let b = long-rows ok prefix rs h l in
    omega arith

long-puts : (ok : List ℕ → Bool) (prefix : List ℕ) (ms : List Message) → Shortens ok → 64 < length prefix → count_puts ok prefix ms ≡ 0
unfolding count_puts Shortens one
long-puts ok prefix [] h l = refl
long-puts ok prefix (puts s v ∷ ms) h l =
    let n = length-append prefix s in
    let a : one (ok (prefix ++ s) && holds_no_message (newest ms s)) ≡ 0 = ap (λ x. one (x && holds_no_message (newest ms s))) (h (prefix ++ s) (omega arith)) in
    let b = long-puts ok prefix ms h l in
    omega arith
long-puts ok prefix (drops s ∷ ms) h l = long-puts ok prefix ms h l
long-puts ok prefix (clears s ∷ ms) h l = long-puts ok prefix ms h l

more-short : (ok more : List ℕ → Bool) → Shortens ok → Shortens (λ q. ok q && more q)
unfolding Shortens
more-short ok more h = λ q l. ap (λ x. x && more q) (h q l)

mutual
  unfolding live_here live_branches

  pub too_long : (t : Tree) (ok : List ℕ → Bool) (prefix hi : List ℕ) → Shortens ok → 64 < length prefix → live_here t ok prefix hi ≡ 0
  too_long (unread i) ok prefix hi h l = refl
  too_long (leaf i rs) ok prefix hi h l = long-rows ok prefix rs h l
  too_long (interior i f ms) ok prefix hi h l =
      let a = long-puts ok prefix ms h l in
      let b = too-long-in f (λ q. ok q && holds_no_message (newest ms (drop (length prefix) q))) prefix hi (more-short ok (λ q. holds_no_message (newest ms (drop (length prefix) q))) h) l in
      omega arith

  pub too-long-in : (f : Forest) (ok : List ℕ → Bool) (prefix hi : List ℕ) → Shortens ok → 64 < length prefix → live_branches f ok prefix hi ≡ 0
  too-long-in end ok prefix hi h l = refl
  too-long-in (tree s t f) ok prefix hi h l =
      let n = length-append prefix (shared s (high_of [] hi f)) in
      let a = too_long t ok (prefix ++ shared s (high_of [] hi f)) (drop (lifts s (high_of [] hi f)) (high_of [] hi f)) h (omega arith) in
      let b = too-long-in f ok prefix hi h l in
      omega arith

-- Notes of messages: what a note says of a key, and what it is to note the messages of a node for a leaf. Definitions only.
use Rattle.std.specs.Prelude.{ℕ, ◌≡◌, List, [], ◌∷◌, ◌++◌, Bool, true, false, ◌&&◌, not, take, get_or, Some, IsSome, unwrap_or}
use Rattle.std.specs.List.{list_all}
use Rattle.std.specs.Borrow.{Bor}
use Rattle.image.specs.Bytes.{same, before, begins}
use Rattle.image.specs.Path.{owns}
use Rattle.image.specs.Entry as defined
use Rattle.node.specs.Search.Latest.{entry_says, covers}
use Rattle.live_count.specs.declared.notes.Note.{Note}
use Rattle.live_count.specs.declared.notes.Keys.{Keys}
use Rattle.live_count.specs.declared.notes.Notes.{Notes}

-- a message that clears x, or else names it, is on a rest
unfoldable pub on : Bool → List ℕ → List ℕ → Bool
on true x r = begins x r
on false x r = same x r

abbrev pub note_covers : Note → List ℕ → Bool
note_covers v k = on v.clears v.path.now k

-- none of some notes is on a key
abbrev pub quiet : List Note → List ℕ → Bool
quiet vs k = list_all (λ v. not (note_covers v k)) vs

-- the notes of kinds and paths that lie apart
unfoldable pub paired : List Bool → List (Bor (List ℕ)) → List Note
paired (c ∷ cs) (p ∷ ps) = record { clears = c; path = p } ∷ paired cs ps
paired cs ps = []

-- the notes that are kept, where there was room
abbrev pub kept : Notes → List Note
kept n = take (unwrap_or n.count 0) (paired n.clears n.paths)

-- the note at a place, among all that there is room for
abbrev pub Stands : Notes → ℕ → Note → Type 0
Stands n i v = get_or (paired n.clears n.paths) i v ≡ v

abbrev pub silent : Notes → List ℕ → Bool
silent n k = quiet (kept n) k

abbrev pub Empty : Notes → Type 0
Empty n = n.count ≡ Some 0

-- a message on x, where r says that it is seen to be on no key from lo up
unfoldable pub Misses : List ℕ → Bool → List ℕ → Bool → Type 0
Misses x c lo r = r ≡ true → (k : List ℕ) → before k lo ≡ false → on c x k ≡ false

-- a note is on none of the keys; or it says of them what another does
abbrev pub Unconcerned : Note → Keys → Type 0
Unconcerned n w = (k : List ℕ) → owns w.low.now w.high.now k ≡ true → note_covers n (w.after.now ++ k) ≡ false

abbrev pub Concerns : Note → Keys → Note → Type 0
Concerns n w v = (k : List ℕ) → owns w.low.now w.high.now k ≡ true → note_covers n (w.after.now ++ k) ≡ note_covers v k

-- an entry, and entries, none of which is on a rest
abbrev pub entry_not_covers : defined.Entry → List ℕ → Bool
entry_not_covers e r = not (covers (entry_says e r))

unfoldable pub none_covers : List defined.Entry → List ℕ → Bool
none_covers [] r = true
none_covers (e ∷ es) r = entry_not_covers e r && none_covers es r

-- an entry with no note, and one that a note stands for
abbrev pub Uncovered : defined.Entry → Type 0
Uncovered e = (k : List ℕ) → entry_not_covers e k ≡ true

abbrev pub Same : defined.Entry → Note → Type 0
Same e v = (k : List ℕ) → entry_not_covers e k ≡ not (note_covers v k)

-- an entry that is no put
abbrev pub NoPut : defined.Entry → Type 0
NoPut e = (k v : List ℕ) → e ≡ defined.message (defined.puts k v) → ⊥

-- Notes added for what passes a test, where there was room for them.
pub record Gathered (lo hi : List ℕ) (test : List ℕ → Bool) (before after : Notes) : Type 0 where
  pub room : IsSome after.count → IsSome before.count
  pub tells : IsSome after.count → (k : List ℕ) → owns lo hi k ≡ true → silent after k ≡ silent before k && test k

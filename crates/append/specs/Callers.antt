-- For those who call: from the code's equation to the record of what a message at the root leaves. Relies on append's Laws.
use Rattle.std.specs.Prelude.{ℕ, ◌≤◌, ◌<◌, ◌≡◌, List, true, false, length}
use Rattle.image.specs.Prelude.{sym, subst}
use Rattle.image.specs.Bytes.{u16}
use Rattle.image.specs.Entry.{Message, message}
use Rattle.image.specs.Image.{nodes_of, tree_of}
use Rattle.image.specs.Sound.{sound_message, numbers, is_in, lowest, highest}
use Rattle.laws.specs.Encode.{bytes_of}
use Rattle.laws.specs.ButLive.{sound_but_live}
use Rattle.append.specs.Laws.Append.{room_at_root, appended, Appended, appended-is}
use Rattle.append.specs.Laws.Raise.{root_raised, raised_is}

module _ (s s' : List ℕ) (e : sound_but_live s ≡ true) (m : Message) (w : sound_message lowest highest m ≡ true) where
  pub message-appended : room_at_root s (length (bytes_of (message m))) ≡ true → s' ≡ appended s m → Appended s m s'
  message-appended room q = subst (Appended s m) (sym q) (appended-is s m e room w)

  pub message-raised : (i : ℕ) → 1 ≤ i → i < nodes_of (length s) → is_in i (numbers (tree_of s)) ≡ false → u16 s 8 ≤ 7 → length (bytes_of (message m)) ≤ 1010
      → s' ≡ root_raised s i m → Appended s m s'
  message-raised i low high free seven z q = subst (Appended s m) (sym q) (raised_is s i m e low high free z seven w)

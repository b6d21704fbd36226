-- What make leaves is sound.
use Rattle.std.proofs.Common.{rules}
use Rattle.script.specs.Input.{made-sound}
use Rattle.console.proofs.files.begin.Goals as goal

pub returns-then-not-has_words : goal.returns-then-not-has_words
returns-then-not-has_words c = λ e. search (rules, made-sound)

use Rattle.std.proofs.Common.{◌≡◌, ◌≤◌, length, drop}
use Rattle.program_words.specs.Words.{after}
use Rattle.program_words.proofs.nth.Given as goal

abbrev pub invariant-loop : goal.invariant-loop
invariant-loop l = (l.start ≤ length l.line) × (drop l.start l.line ≡ after l.separator l.counter l.line)

use Rattle.std.proofs.Common.{◌≡◌, ◌≤◌, take, map, length, vec_len, vec_capacity}
use Rattle.multimap_tool.specs.Spelling.{letter_of}
use Rattle.multimap_tool.proofs.parse.operands.letters_of.Given as goal

abbrev pub invariant-loop-letter : goal.invariant-loop-letter
invariant-loop-letter g l = record {
  read : map letter_of l.word.items ≡ take l.letter-index l.text;
  count : vec_len l.word ≡ l.letter-index;
  room : length l.text ≤ vec_capacity l.word;
}

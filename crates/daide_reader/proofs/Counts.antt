-- The arithmetic of reading, without the tokens. Each fact is shown here once, with few hypotheses in scope.
use Rattle.std.proofs.Common.{min, Fits, w64}
use Rattle.std.proofs.lemmas.List.{length-reverse, length-take}
use Rattle.daide_reader.proofs.Common.{◌≡◌, ◌≢◌, ℕ, ◌+◌, ◌-◌, ◌*◌, ◌/◌, ◌%◌, ◌^◌, ◌≤◌, ◌<◌, List, ◌∷◌, length, take}
use Rattle.daide_reader.proofs.Common.{reverse, ◌∙◌, ap, arith, Option, Some, None, IsSome, length-take-le, Sym}
use Rattle.daide_reader.proofs.Common.{below_zero, most_tokens}
use Rattle.daide_reader.specs.Bounds.{longest_message, most_symbols}

-- a token of a body
module _ (size next : ℕ) (less : next < size / 2) where
  pub whole_token : 2 * next + 1 < size
  whole_token = omega arith

  pub place_fits : size ≤ longest_message → next < most_tokens
  place_fits room = omega arith

  pub token_fits : size ≤ longest_message → Fits w64 next
  token_fits room = omega arith

  pub token_inside : (count : ℕ) → count ≡ size / 2 → next ≤ count
  token_inside count all = omega arith

  pub read_inside : (tokens : ℕ) → tokens ≡ next + 1 → tokens ≤ size / 2
  read_inside tokens one = omega arith

-- a run ends at the end of the body, or `most` tokens further on
module _ (size read most end : ℕ) (is : end ≡ min (size / 2) (read + most)) where
  pub end_inside : end ≤ size / 2
  end_inside = omega arith

  pub end_moves : read < size / 2 → 0 < most → read < end
  end_moves more some = omega arith

  pub before_end : (next : ℕ) → next < end → next < size / 2
  before_end next less = omega arith

-- of any two numbers
pub below_within : (n m : ℕ) → n ≤ m → n - 1 ≤ m
below_within n m inside = omega arith

pub less_within : (m n : ℕ) → m < n → m ≤ n
less_within m n less = omega arith

pub some_left : (m n : ℕ) → m < n → 0 < n - m
some_left m n less = omega arith

pub read_here : (read : ℕ) → read ≤ read
read_here read = omega arith

pub from_next : (read next : ℕ) → read ≤ next → read ≤ next + 1
from_next read next from = omega arith

pub next_within : (next end : ℕ) → next < end → next + 1 ≤ end
next_within next end less = omega arith

-- a run is no longer than the brackets that may be opened
pub start_shallow : (unclosed max_depth size read end : ℕ) → end ≡ min (size / 2) (read + (max_depth - unclosed))
    → unclosed < max_depth → unclosed + (end - read) ≤ max_depth
start_shallow unclosed max_depth size read end is deep = omega arith

pub is_last : (next end : ℕ) → next < end → next ≡ end - 1 → next + 1 ≡ end
is_last next end less same = omega arith

pub not_last : (next end : ℕ) → next < end → next ≢ end - 1 → next + 1 < end
not_last next end less other = omega arith

pub all_of : (next end : ℕ) → next ≤ end → end ≤ next → next ≡ end
all_of next end upto all = omega arith

-- the number of brackets that may be open is small
pub count_low : (opened max_depth size : ℕ) → opened ≤ max_depth → size ≤ most_symbols → 5 * max_depth + 10 ≤ size
    → opened + 1 < below_zero
count_low opened max_depth size deep small at_depth_limit = omega arith

-- fewer tokens are left
pub fewer_left : (all next after : ℕ) → next < all → next < after → all - after < all - next
fewer_left all next after less more = omega arith

pub one_less : (all next : ℕ) → next < all → all - (next + 1) < all - next
one_less all next less = omega arith

-- one more token is after those that were read
pub one_behind : (read next tokens : ℕ) → read ≤ next → tokens ≡ next + 1 → read < tokens
one_behind read next tokens from one = omega arith

-- with fewer open brackets than the limit
module _ (opened end next max_depth : ℕ) (shallow : opened + (end - next) ≤ max_depth) (less : next < end) where
  pub less_deep : opened < max_depth
  less_deep = omega arith

  pub shallow_next : (after : ℕ) → after ≤ opened + 1 → after + (end - (next + 1)) ≤ max_depth
  shallow_next after more = omega arith

-- the measure decreases: fewer tokens, or a lower stack
pub token_less : (end next after left size : ℕ) → next < end → after ≤ size → size ≤ most_symbols
    → (end - (next + 1)) * 4097 + after < (end - next) * 4097 + left
token_less end next after left size less inside small = omega arith

pub stack_less : (rest left : ℕ) → left ≢ 0 → rest + (left - 1) < rest + left
stack_less rest left some = omega arith

-- a stack with a symbol on top is within the cells
pub filled : (cells : List Sym) (left : ℕ) (top : Sym) → reverse (take left cells) ≡ top ∷ reverse (take (left - 1) cells)
    → left ≤ length cells
filled cells left top is = omega (arith, simp (length-reverse, length-take) at (ap length is))

-- the top of a stack that is not empty
module _ (left size : ℕ) (some : left ≢ 0) (inside : left ≤ size) where
  pub top_inside : left - 1 < size
  top_inside = omega arith

  pub top_whole : left - 1 + 1 ≡ left
  top_whole = omega arith

  pub top_some : 0 < left
  top_some = omega arith

  pub rest_inside : left - 1 ≤ size
  rest_inside = omega arith

  -- the stack as a list has the same length
  pub room_on_top : (cells : List Sym) → left ≤ length cells → length (reverse (take left cells)) + 7 ≤ size
      → left - 1 + 8 ≤ size
  room_on_top cells long room =
      let same : length (reverse (take left cells)) ≡ left =
      length-reverse (take left cells) ∙ length-take-le left cells long in
      omega (arith, same, room)

-- a run without a place says nothing of the symbols that are left after one
pub never_placed : (place : Option ℕ) (count : ℕ) → place ≡ None → IsSome place → count ≡ 0
never_placed None count is some = absurd cc
never_placed (Some i) count is some = absurd cc

-- the sums of look-ups
pub none_due : (asked due : ℕ) → due ≡ 0 → asked % 2 ^ 64 ≡ (asked + due) % 2 ^ 64
none_due asked due none = omega arith

pub none_more : (asked due : ℕ) → due ≡ 0 → asked % 2 ^ 64 ≡ (asked + (due + 0)) % 2 ^ 64
none_more asked due none = omega arith

-- a symbol that stopped a token is looked up once more
pub once_more : (old mid new due due_then : ℕ) → due_then ≡ due → mid ≡ (old + 1) % 2 ^ 64
    → new % 2 ^ 64 ≡ (mid + due_then) % 2 ^ 64 → new % 2 ^ 64 ≡ (old + (due + 1)) % 2 ^ 64
once_more old mid new due due_then same once steps = omega arith

pub word_stopped : (old new due : ℕ) → new ≡ (old + 1) % 2 ^ 64 → due ≡ 1 → new % 2 ^ 64 ≡ (old + due) % 2 ^ 64
word_stopped old new due counts one = omega arith

-- the look-up of the word, and those for the symbols below
pub word_asked : (old mid new due left here : ℕ) → mid ≡ (old + 1) % 2 ^ 64 → new % 2 ^ 64 ≡ (mid + here) % 2 ^ 64
    → due ≡ 1 + left → here ≡ left → new % 2 ^ 64 ≡ (old + due) % 2 ^ 64
word_asked old mid new due left here counts sum more same = omega arith

-- Limits of a grammar: a text may be of the grammar and pass one.

-- Which limits count, in the order in which they are refused.
pub data Limits : Type 0 where
  -- none
  unlimited : Limits
  -- how deep blocks and expressions may be
  in_depth : Limits
  -- and how long names, strings and lists, and of how many nodes expressions
  in_length : Limits
  -- and how large literals
  in_size : Limits

-- what a tree keeps where these limits count, of what each limit asks
abbrev pub Keeps : Limits → (depth length size : Type 0) → Type 0
Keeps unlimited depth length size = Unit {0}
Keeps in_depth depth length size = depth
Keeps in_length depth length size = depth × length
Keeps in_size depth length size = depth × length × size

-- why a token is refused
pub data Cause : Type 0 where
  syntax : Cause
  too_deep : Cause
  too_long : Cause
  too_large : Cause

-- the limits under which no tree goes on with the token
abbrev pub passed : Cause → Limits
passed syntax = unlimited
passed too_deep = in_depth
passed too_long = in_length
passed too_large = in_size

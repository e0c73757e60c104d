-- What may be open at a place of a text, and what the token before it says of the place.

-- each is open from its own token on, which is counted
pub data Open : Type 0 where
  -- a `(`, a `{`, or the `[` of an element: to its partner
  Bracket : Open
  -- the `[` of an area: to the area's end
  Area : Open
  -- a prefix operator: to its operand's end
  Operator : Open
  -- a `?`: to the end of its last arm. Its `:` has not come yet, or it has
  Choice : Open
  Arm : Open
  -- an `if` behind `else`: to its statement's end
  Branch : Open

-- the token before a place
pub data Before : Type 0 where
  -- a name, a number, a keyword that is a type or an operand, a `)`, or the `]` of an element: an operand or an area may end with it
  Operand : Before
  -- none, a `;`, a `}`, or the `{` of a block: a statement may begin behind it
  Start : Before
  -- a `=`, a `,`, or the `{` of an initializer: an initializer may begin behind it
  Value : Before
  -- `else`
  Else : Before
  -- `ref`
  Ref : Before
  -- any other
  Other : Before

-- The keys of an order's lists, as they are handed on: how many, and they, in so many places; the words past them are 0.
use Rattle.std.specs.Prelude.{ℕ, cond, List, [], ltb, length, take, replicate}
use Rattle.order.specs.Walks.{onto}
use Rattle.order.specs.declared.keys.Keys.{Keys}

-- all keys of a list, or none where they are more than may be: such a list is refused, and its keys are not made
abbrev pub fitting : ℕ → List ℕ → List ℕ
fitting most keys = cond (ltb most (length keys)) [] keys

-- keys in n places
abbrev pub placed : ℕ → List ℕ → List ℕ
placed n keys = onto keys (replicate n 0)

module _ {K : Type 0} {N : ℕ} where
  abbrev pub keys_as : List ℕ → Keys K N
  keys_as keys = record { count = length keys; key = placed N keys; of = record {} }

  -- what such a list holds
  abbrev pub keys_held : Keys K N → List ℕ
  keys_held k = take k.count k.key

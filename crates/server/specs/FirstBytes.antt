-- The first bytes of a connection on which another protocol is spoken: docs/SERVING.md, "Control lines".
use Rattle.std.specs.Prelude.{ℕ, Bool, List, [], ◌∷◌, codes, nat_eq}
use Rattle.std.specs.List.{list_any, starts_with}

-- words of HTTP and TLS: a method and a blank, the beginning of HTTP/2's preface, and the first byte of a handshake
abbrev pub foreign_words : List (List ℕ)
foreign_words =
    codes "GET " ∷ codes "POST " ∷ codes "HEAD " ∷ codes "PUT " ∷ codes "DELETE " ∷ codes "OPTIONS " ∷ codes "CONNECT " ∷ codes "PATCH "
    ∷ codes "TRACE " ∷ codes "PRI " ∷ (22 ∷ []) ∷ []

-- bytes begin with such a word
abbrev pub is_foreign : List ℕ → Bool
is_foreign bytes = list_any (λ word. starts_with nat_eq bytes word) foreign_words

-- or they may once more of them come
abbrev pub may_be_foreign : List ℕ → Bool
may_be_foreign bytes = list_any (λ word. starts_with nat_eq word bytes) foreign_words

-- Bytes by name, and a text round the first place of a byte.
use Rattle.std.specs.Prelude.{ℕ, Bool, List, [], ◌∷◌, length, nat_lt, ◌==◌, if◌then◌else◌}
use Rattle.std.specs.List.{position_or_len, before_first, after_first}

abbrev pub space : ℕ
space = 32

abbrev pub percent_sign : ℕ
percent_sign = 37

abbrev pub opening_parenthesis : ℕ
opening_parenthesis = 40

abbrev pub closing_parenthesis : ℕ
closing_parenthesis = 41

abbrev pub star : ℕ
star = 42

abbrev pub dash : ℕ
dash = 45

abbrev pub point : ℕ
point = 46

abbrev pub zero_digit : ℕ
zero_digit = 48

abbrev pub colon : ℕ
colon = 58

abbrev pub semicolon : ℕ
semicolon = 59

abbrev pub equals_sign : ℕ
equals_sign = 61

abbrev pub greater_sign : ℕ
greater_sign = 62

abbrev pub underscore : ℕ
underscore = 95

abbrev pub delete : ℕ
delete = 127

-- the byte stands in the text
abbrev pub has_byte : ℕ → List ℕ → Bool
has_byte c text = nat_lt (position_or_len (λ b. b == c) text) (length text)

-- what stands before its first place
abbrev pub text_before : ℕ → List ℕ → List ℕ
text_before c text = before_first (λ b. b == c) text

-- what stands after its first place
abbrev pub text_after : ℕ → List ℕ → List ℕ
text_after c text = after_first (λ b. b == c) text

abbrev pub onto_kept : ℕ → ℕ → List ℕ → List ℕ
onto_kept c b [] = if b == c then [] else b ∷ []
onto_kept c b (x ∷ xs) = b ∷ x ∷ xs

-- the text without each such byte at its end
abbrev pub without_end : ℕ → List ℕ → List ℕ
without_end c [] = []
without_end c (b ∷ bs) = onto_kept c b (without_end c bs)

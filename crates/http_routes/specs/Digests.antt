-- Digests of messages.
use Rattle.std.specs.Prelude.{ℕ, ◌-◌, ◌++◌, ◌==◌, ◌||◌, Bool, not, bytes_eq, take, List, map, length, replicate, bit_xor, nat_lt, if◌then◌else◌, codes}
use Rattle.std.specs.List.{list_all, slice_split}
use Rattle.sha2.specs.Sha256.{sha256}
use Rattle.hex.specs.Hex.{encode_lower}
use Rattle.base64.specs.GeneralPurpose.{encode_of}
use Rattle.base64.specs.Engines.{standard}

-- ---- HMAC-SHA-256 (RFC 2104)

-- how many bytes a block of SHA-256 has
abbrev pub block_bytes : ℕ
block_bytes = 64

abbrev pub padded : List ℕ → List ℕ
padded key = key ++ replicate (block_bytes - length key) 0

-- a key that is longer than a block is hashed first
abbrev pub key_block : List ℕ → List ℕ
key_block key = if nat_lt block_bytes (length key) then padded (sha256 key) else padded key

abbrev pub masked : ℕ → List ℕ → List ℕ
masked mask bytes = map (λ byte. bit_xor byte mask) bytes

abbrev pub hmac_sha256 : List ℕ → List ℕ → List ℕ
hmac_sha256 key message =
    sha256 (masked 92 (key_block key) ++ sha256 (masked 54 (key_block key) ++ message))

-- ---- as header fields

-- the value of `Content-Digest` (RFC 9530)
abbrev pub digest_text : List ℕ → List ℕ
digest_text body = codes "sha-256=:" ++ (encode_of standard (sha256 body) ++ codes ":")

-- the value of `Failreg-Mac`
abbrev pub mac_text : List ℕ → List ℕ → List ℕ
mac_text key body = encode_lower (hmac_sha256 key body)

-- ---- a `Content-Digest` that was received

-- a comma, a space or a tab
abbrev pub is_between_words : ℕ → Bool
is_between_words byte = byte == 44 || byte == 32 || byte == 9

-- a word is no other SHA-256 than this one
abbrev pub agrees : List ℕ → List ℕ → Bool
agrees digest word = bytes_eq word digest || not (bytes_eq (take 8 word) (codes "sha-256="))

abbrev pub is_intact : List ℕ → List ℕ → Bool
is_intact digest field = list_all (agrees digest) (slice_split is_between_words field)

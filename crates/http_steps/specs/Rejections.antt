-- What a head is answered before anything is asked.
use Rattle.std.specs.Prelude.{ℕ, List, Option, Some, None, codes}
use Rattle.http.specs.declared.error.Error.{Error}
use Rattle.http.specs.declared.error.Error.TheVariants as errors
use Rattle.http1.specs.ReadError.{status_of}
use Rattle.http1.specs.declared.error.ReadError.{ReadError}
use Rattle.http1.specs.declared.error.ReadError.TheVariants as reads
use Rattle.http1.specs.declared.framing.FramingError.TheVariants as framings
use Rattle.http_exchange.specs.Heads.{refusal_labels, refusal_reply}
use Rattle.http_exchange.specs.Labels.{plain_labels}
use Rattle.http_exchange.specs.declared.labels.Labels.{Labels}
use Rattle.http_routes.specs.Replies.{ReplyValue, no_memory, text_reply}
use Rattle.http_steps.specs.declared.rejection.Rejection.{Rejection}
use Rattle.http_steps.specs.declared.rejection.Rejection.TheVariants as rejections
use Rattle.httparse.specs.declared.Error.TheVariants as parses

abbrev pub bad_line : List ℕ
bad_line = codes "bad request line: send it as GET /fail HTTP/1.1"

abbrev pub bad_field : List ℕ
bad_field = codes "bad field: send each as Name: value, ended by CR LF"

abbrev pub many_fields : List ℕ
many_fields = codes "too many fields: send at most 100"

abbrev pub bad_length : List ℕ
bad_length = codes "bad Content-Length: send one, of digits alone"

-- what is said of a head that can't be read, and what to send
abbrev pub unreadable_text : ReadError → List ℕ
unreadable_text reads.UriTooLong = codes "too long a path: a head has 65536 bytes at most"
unreadable_text reads.TooLarge = codes "too long a head: send at most 65536 bytes"
unreadable_text (reads.Parse parses.TooManyHeaders) = many_fields
unreadable_text (reads.Parse parses.HeaderName) = bad_field
unreadable_text (reads.Parse parses.HeaderValue) = bad_field
unreadable_text reads.BareLineFeed = bad_field
unreadable_text reads.Host = codes "bad Host: send one"
unreadable_text (reads.Framing framings.InvalidContentLength) = bad_length
unreadable_text (reads.Framing framings.ConnectWithContent) = bad_length
unreadable_text (reads.Framing _) = codes "bad Transfer-Encoding: send Content-Length, or chunks alone"
unreadable_text _ = bad_line

-- why a head is rejected whose parts can't be read
abbrev pub parts_rejection : Error → Rejection
parts_rejection errors.OutOfMemory = rejections.NoMemory
parts_rejection errors.HeaderName = rejections.ManyFields
parts_rejection errors.MaxSizeReached = rejections.ManyFields
parts_rejection _ = rejections.BadTarget

abbrev pub rejection_reply : Rejection → ReplyValue
rejection_reply (rejections.Unreadable fault) = text_reply (status_of fault) (unreadable_text fault)
rejection_reply rejections.BadTarget = text_reply 400 bad_line
rejection_reply rejections.ManyFields = text_reply 431 many_fields
rejection_reply (rejections.Refused refusal) = refusal_reply refusal
rejection_reply rejections.NoMemory = no_memory

abbrev pub rejection_labels : Rejection → Labels
rejection_labels (rejections.Refused refusal) = refusal_labels refusal
rejection_labels _ = plain_labels

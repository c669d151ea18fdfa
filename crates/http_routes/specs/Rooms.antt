-- A reply whose body may stand in room that is kept.
use Rattle.std.specs.Prelude.{ℕ, List}
use Rattle.http_routes.specs.Replies.{ReplyValue, http_value}
use Rattle.http_routes.specs.declared.room.RoomReply.{RoomReply}
use Rattle.http_routes.specs.declared.room.RoomReply.TheVariants as replies

-- with these bytes in the room
abbrev pub room_reply_value : List ℕ → RoomReply → ReplyValue
room_reply_value kept (replies.Kept status fault) = record { status = status; body = kept; fault = fault }
room_reply_value kept (replies.Apart reply) = http_value reply

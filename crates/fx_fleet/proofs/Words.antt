-- Items and messages from plain numbers, for rows.
use Rattle.std.specs.Prelude.{ℕ, ℤ, Bool, true, false, List, map}
use Rattle.fx_base.specs.declared.names.GroupId.{GroupId}
use Rattle.fx_base.specs.declared.names.How.{How}
use Rattle.fx_base.specs.declared.names.MemberId.{MemberId}
use Rattle.fx_base.specs.declared.names.Op.{Op}
use Rattle.fx_base.specs.declared.names.Role.{Role}
use Rattle.fx_comm.specs.Seats.{Seat}
use Rattle.fx_item.specs.declared.answer.Answer.{Answer}
use Rattle.fx_item.specs.declared.answer.Refusable.{Refusable}
use Rattle.fx_item.specs.declared.item.Item.{Item}
use Rattle.fx_item.specs.declared.item.Item.TheVariants as item
use Rattle.fx_link.specs.declared.slot.Slot.{Slot}
use Rattle.fx_walk.specs.Walk.{stamp_at}
use Rattle.fx_machine.specs.Messages.{message_of}
use Rattle.fx_machine.specs.Numbers.{proc, epoch_no, call_no}
use Rattle.fx_machine.specs.Texts.{Text}

-- whether there are as many places as ranks
abbrev pub full : Bool
full = false

abbrev pub depleted : Bool
depleted = true

abbrev pub group_no : ℕ → GroupId
group_no g = record { 0 = g }

abbrev pub member_no : ℕ → MemberId
member_no m = record { 0 = m }

-- ---- items: p is a process, e an epoch, k a call, g a group, m a member, t a stamp, x the process of an error

abbrev pub kill : ℕ → Item
kill p = item.Kill (proc p)

abbrev pub join : (p e : ℕ) → Slot → Item
join p e kind = item.Join (proc p) (epoch_no e) kind

abbrev pub repaired : (p e size : ℕ) → Bool → List Seat → Item
repaired p e size warn seats = item.Repaired (proc p) (epoch_no e) size warn seats

abbrev pub callback : (p e : ℕ) → List ℕ → Item
callback p e name = item.Callback (proc p) (epoch_no e) name

abbrev pub init : (p e : ℕ) → Role → (ident rank size : ℕ) → Bool → Item
init p e role ident rank size warn = item.Init (proc p) (epoch_no e) role (record { 0 = ident }) rank size warn

abbrev pub print : (p e : ℕ) → List ℕ → List ℤ → Item
print p e name values = item.Print (proc p) (epoch_no e) name values

abbrev pub attach : (p e g m : ℕ) → Item
attach p e g m = item.Attach (proc p) (epoch_no e) (group_no g) (member_no m)

abbrev pub commit : (p e g : ℕ) → ℤ → Item
commit p e g t = item.Commit (proc p) (epoch_no e) (group_no g) (stamp_at t)

abbrev pub refused : (p e : ℕ) → Refusable → (g m : ℕ) → ℤ → Answer → Item
refused p e statement g m t answer = item.Refused (proc p) (epoch_no e) statement (group_no g) (member_no m) (stamp_at t) answer

abbrev pub barrier : (p e k : ℕ) → Item
barrier p e k = item.Barrier (proc p) (epoch_no e) (call_no k)

abbrev pub reduce : (p e k : ℕ) → Op → ℤ → Item
reduce p e k op n = item.Reduce (proc p) (epoch_no e) (call_no k) op n

abbrev pub agree : (p e k : ℕ) → ℤ → Item
agree p e k n = item.Agree (proc p) (epoch_no e) (call_no k) n

abbrev pub shift : (p e k by : ℕ) → List ℤ → Item
shift p e k by values = item.Shift (proc p) (epoch_no e) (call_no k) by values

abbrev pub group : (p e k g : ℕ) → Item
group p e k g = item.Group (proc p) (epoch_no e) (call_no k) (group_no g)

abbrev pub close : (p e k g : ℕ) → Item
close p e k g = item.Close (proc p) (epoch_no e) (call_no k) (group_no g)

abbrev pub drop : (p e k g : ℕ) → ℤ → Item
drop p e k g t = item.Drop (proc p) (epoch_no e) (call_no k) (group_no g) (stamp_at t)

abbrev pub passed : (p e k : ℕ) → Item
passed p e k = item.Passed (proc p) (epoch_no e) (call_no k)

abbrev pub value : (p e k : ℕ) → ℤ → Item
value p e k n = item.Value (proc p) (epoch_no e) (call_no k) n

abbrev pub shifted : (p e k : ℕ) → List ℤ → Item
shifted p e k values = item.Shifted (proc p) (epoch_no e) (call_no k) values

abbrev pub created : (p e k g : ℕ) → How → List ℤ → Item
created p e k g how stamps = item.Created (proc p) (epoch_no e) (call_no k) (group_no g) how (map stamp_at stamps)

abbrev pub closed : (p e k g : ℕ) → ℤ → Item
closed p e k g t = item.Closed (proc p) (epoch_no e) (call_no k) (group_no g) (stamp_at t)

abbrev pub failed : (p e k x : ℕ) → Item
failed p e k x = item.Failed (proc p) (epoch_no e) (call_no k) (proc x)

abbrev pub revoked : (p e k x : ℕ) → Item
revoked p e k x = item.Revoked (proc p) (epoch_no e) (call_no k) (proc x)

abbrev pub ended : ℕ → Item
ended p = item.Ended (proc p)

abbrev pub send : (p q : ℕ) → Text → Item
send p q t = item.Send (proc p) (proc q) (message_of t)

abbrev pub deliver : (p q : ℕ) → Text → Item
deliver p q t = item.Deliver (proc p) (proc q) (message_of t)

abbrev pub told : (p q : ℕ) → Item
told p q = item.Told (proc p) (proc q)

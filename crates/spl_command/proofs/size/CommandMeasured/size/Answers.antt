use Rattle.std.proofs.Common.{◌+◌, length, ap, arith}
use Rattle.spl_command.{specs.declared.batch.Command.TheVariants.{Set, Get, Delete, Event, Data, Invalid, Error}, proofs.Sizes.{counted, set_size, get_size}}
use Rattle.spl_command.proofs.Sizes.{delete_size, event_size, data_size, invalid_size, error_size}
use Rattle.spl_command.proofs.size.CommandMeasured.size.Goals as goal

pub returns-in-Set : goal.returns-in-Set
returns-in-Set c =
    counted c.args.self.now (Set c.in-Set.address c.in-Set.value) (3 + length c.in-Set.address.0 + length c.in-Set.value) _ c.in-Set.is
    (set_size c.in-Set.address c.in-Set.value) (omega (arith, ap length c.bytes.ensures))

pub returns-in-Get : goal.returns-in-Get
returns-in-Get c = counted c.args.self.now (Get c.in-Get.address) (1 + length c.in-Get.address.0) _ c.in-Get.is (get_size c.in-Get.address) (omega (arith))

pub returns-in-Delete : goal.returns-in-Delete
returns-in-Delete c =
    counted c.args.self.now (Delete c.in-Delete.address) (1 + length c.in-Delete.address.0) _ c.in-Delete.is (delete_size c.in-Delete.address) (omega (arith))

pub returns-in-Event : goal.returns-in-Event
returns-in-Event c =
    counted c.args.self.now (Event c.in-Event.kind c.in-Event.data) (5 + length c.in-Event.kind + length c.in-Event.data) _ c.in-Event.is
    (event_size c.in-Event.kind c.in-Event.data) (omega (arith, ap length c.bytes-in-Event.ensures.value, ap length c.bytes-in-Event-2.ensures))

pub returns-in-Data : goal.returns-in-Data
returns-in-Data c =
    counted c.args.self.now (Data c.in-Data.data) (3 + length c.in-Data.data) _ c.in-Data.is (data_size c.in-Data.data)
    (omega (arith, ap length c.bytes-in-Data.ensures))

pub returns-in-Invalid : goal.returns-in-Invalid
returns-in-Invalid c =
    counted c.args.self.now (Invalid c.in-Invalid.text) (3 + length c.in-Invalid.text) _ c.in-Invalid.is (invalid_size c.in-Invalid.text)
    (omega (arith, ap length c.bytes-in-Invalid.ensures.value))

pub returns-in-Error : goal.returns-in-Error
returns-in-Error c =
    counted c.args.self.now (Error c.in-Error.text) (3 + length c.in-Error.text) _ c.in-Error.is (error_size c.in-Error.text)
    (omega (arith, ap length c.bytes-in-Error.ensures.value))

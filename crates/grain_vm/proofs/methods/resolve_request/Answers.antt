-- What a request calls, by what it asks for.
use Rattle.std.proofs.Common.{◌≡◌, ◌+◌, ◌++◌, Some, None, length, rules}
use Rattle.grain_program.specs.Lookups.{function_by_text}
use Rattle.grain_vm.proofs.Needing.{compiled_calls, native_kept, pointer_back, pointer_calls, pointer_native}
use Rattle.grain_vm.proofs.methods.resolve_request.Goals as goal

pub returns-in-Native : goal.returns-in-Native
returns-in-Native g c =
    native_kept c.args.context.program.now c.args.request c.in-Native.name c.in-Native.is

pub returns-in-Compiled : goal.returns-in-Compiled
returns-in-Compiled g c =
    compiled_calls c.args.context.program.now c.args.request c.in-Compiled.number c.in-Compiled.is
    c.requires.there

pub returns-in-Err : goal.returns-in-Err
returns-in-Err g c =
    rw c.in-Err.ensures.back
    (pointer_back c.args.context.program.now c.args.request c.in-Pointer.pointer c.in-Pointer.is)

pub returns-in-Some : goal.returns-in-Some
returns-in-Some g c =
    let p = c.args.context.program.now in
    let r = c.args.request in
    let f = c.in-Pointer.pointer in
    let all : c.in-Ok.all ≡ f.curry ++ r.arguments = search rules in
    let exact : function_by_text p f.name (length f.curry + length r.arguments)
    ≡ Some c.in-Some.number = search rules in
    pointer_calls p r f c.in-Pointer.is c.in-Some.number c.in-Ok.all exact all

pub returns-in-None : goal.returns-in-None
returns-in-None g c =
    let p = c.args.context.program.now in
    let r = c.args.request in
    let f = c.in-Pointer.pointer in
    let all : c.in-Ok.all ≡ f.curry ++ r.arguments = search rules in
    let none : function_by_text p f.name (length f.curry + length r.arguments) ≡ None = search rules in
    pointer_native p r f c.in-Pointer.is c.in-Ok.all none all

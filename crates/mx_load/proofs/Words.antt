-- The words that the proofs of this crate cite, passed on from one place. Declares nothing.
pub use Rattle.std.specs.List.{AllByRecursion}
pub use Rattle.mx_mmo.specs.Meaning.{Loading, Meaningless, image_in, meaning, nothing, take_item, take_items}
pub use Rattle.mx_mmo.specs.Reading.{Due, IsWithin, first_item}
pub use Rattle.mx_mmo.specs.Replies.{ReaderModel, given, limit, next_answer, next_due, next_item, phase_after, tail_of}
pub use Rattle.mx_mmo.specs.Valid.{Fits}
pub use Rattle.mx_mmo.specs.Whole.{Left, Walk, after_item, left_of, object_after, object_of, walk_on, with_tail}
unfoldable pub use Rattle.mx_mmo.specs.Whole.{items_of, walk}
pub use Rattle.mx_mmo.specs.declared.faults.MmoFault.{MmoFault}
pub use Rattle.mx_mmo.specs.declared.items.Item.{Item}
pub use Rattle.mx_mmo.specs.declared.items.Item.TheVariants.{Load}
pub use Rattle.mx_stab.specs.declared.faults.StabFault.{StabFault}
pub use Rattle.mx_load.specs.Answers.{item_answer, loaded_after, loaded_from, place_and_number, unloaded, unread}
pub use Rattle.mx_load.specs.Faults.{fault_of, told}
pub use Rattle.mx_load.specs.Objects.{Loaded, MeansNothing, fault_at, first_loaded, item_loaded, object_loaded, tail_read, taken, trie_read, whole_loaded, with_symbols}
unfoldable pub use Rattle.mx_load.specs.Objects.{items_loaded}
pub use Rattle.mx_load.specs.Status.{after, answer, loading_of, status}
pub use Rattle.mx_load.specs.declared.fault.LoadFault.{LoadFault}
pub use Rattle.mx_load.specs.declared.objects.ObjectFault.TheVariants.{OutOfMemory}

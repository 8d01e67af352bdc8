pub mod StoreToNull

pub mod JsonParts

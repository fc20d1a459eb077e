mod StartSlots
